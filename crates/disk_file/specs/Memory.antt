-- A file in memory.
use Rattle.std.specs.Prelude.{ℕ, List}
use Rattle.disk_file.specs.declared.memory.MemoryFile.{MemoryFile}

-- what it holds
abbrev pub memory_bytes : MemoryFile → List ℕ
memory_bytes m = m.bytes.items
