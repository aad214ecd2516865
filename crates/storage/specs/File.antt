-- What a file is called, and what it holds.
use Rattle.std.specs.Prelude.{ℕ, List}
use Rattle.storage.specs.declared.file.File.{File}

abbrev pub name_of : File → List ℕ
name_of f = f.name.items

abbrev pub content_of : File → List ℕ
content_of f = f.content.items
