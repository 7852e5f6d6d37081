-- What a file in memory shows.
use Rattle.std.specs.Prelude.{ℕ, List}
use Rattle.memory_file.specs.declared.file.MemoryFile.{MemoryFile}

-- its bytes
abbrev pub bytes_of : MemoryFile → List ℕ
bytes_of file = file.bytes.items
