-- Why a file cannot be opened or read.
use Rattle.std.specs.Prelude.{ℕ, ℤ, pos, negsuc, ◌==◌, ◌||◌, Bool, false, List, codes, Option, Some, None, if◌then◌else◌}
use Rattle.std.specs.declared.io.ErrorKind.{ErrorKind}
pub use Rattle.speedate_cli.specs.declared.reason.Reason.{Reason}

-- why, by the kind of an error that is not about the number of open files
abbrev pub reason_by_kind : ErrorKind → Reason
reason_by_kind ErrorKind.NotFound = Reason.NotFound
reason_by_kind ErrorKind.PermissionDenied = Reason.PermissionDenied
reason_by_kind ErrorKind.IsADirectory = Reason.IsFolder
reason_by_kind ErrorKind.NotADirectory = Reason.NotFolder
reason_by_kind ErrorKind.FilesystemLoop = Reason.TooManyLinks
reason_by_kind ErrorKind.InvalidFilename = Reason.LongName
reason_by_kind _ = Reason.Other

-- the system's number of an error is about the number of open files
abbrev pub is_about_files : ℤ → Bool
is_about_files (pos code) = (code == 24) || (code == 23)
is_about_files (negsuc code) = false

-- why, by the system's number of an error, if it has one, and its kind
abbrev pub reason_of : Option ℤ → ErrorKind → Reason
reason_of None kind = reason_by_kind kind
reason_of (Some code) kind =
    if is_about_files code then Reason.TooManyFiles else reason_by_kind kind

-- why, for people
abbrev pub reason_text : Reason → List ℕ
reason_text Reason.NotFound = codes "not found"
reason_text Reason.PermissionDenied = codes "permission denied"
reason_text Reason.IsFolder = codes "is a folder"
reason_text Reason.NotFolder = codes "a part of its path is not a folder"
reason_text Reason.TooManyLinks = codes "too many links in its path"
reason_text Reason.LongName = codes "its name is too long"
reason_text Reason.TooManyFiles = codes "too many open files"
reason_text Reason.Other = codes "the system refused it"
