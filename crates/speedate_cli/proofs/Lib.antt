mod FilesLemmas
