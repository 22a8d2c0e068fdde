-- The tables beside head and elements, as they are lent. Assumes nothing.
use Rattle.std.specs.Prelude.{ℕ, List}
use Rattle.rules.specs.Tables.{Rest, others}
use Rattle.tables.specs.declared.Fixed.{Fixed}

-- the tables that no command writes, and the search
abbrev pub rest_of : Fixed → List ℕ → Rest
rest_of f search = others f.tags.now f.blank.now f.generations.now f.masks.now search
