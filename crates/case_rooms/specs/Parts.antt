-- Parts of a room. Assumes nothing.
use Rattle.std.specs.Prelude.{ℕ, ◌+◌, ◌*◌, List, get_or, take, drop}
use Rattle.rules.specs.Tables.{head_size, element_size, tag_size, search_size}
use Rattle.case_script.specs.declared.word.Word.{Word}
use Rattle.case_script.specs.declared.word.Word.TheVariants as word
use Rattle.case_rooms.specs.declared.parts.Table.{Table}
use Rattle.case_rooms.specs.declared.parts.Table.TheVariants.{Head, Elements, Tags, Blank, Generations, Masks, Search}

-- the n bytes from a place on, as many of them as there are
unfoldable pub part : List ℕ → ℕ → ℕ → List ℕ
part room from n = take n (drop from room)

-- the length of a table, by its number
abbrev pub length_of : List ℕ → ℕ → ℕ
length_of sizes table = get_or sizes table 0

-- the numbers of the tables
abbrev pub HEAD : ℕ
HEAD = 0

abbrev pub ELEMENTS : ℕ
ELEMENTS = 1

abbrev pub TAGS : ℕ
TAGS = 2

abbrev pub BLANK : ℕ
BLANK = 3

abbrev pub GENERATIONS : ℕ
GENERATIONS = 4

abbrev pub MASKS : ℕ
MASKS = 5

abbrev pub SEARCH : ℕ
SEARCH = 6

-- where what a call reads begins in the room: each part behind the one before it
abbrev pub elements_at : ℕ
elements_at = head_size + 6

abbrev pub tags_at : ℕ
tags_at = elements_at + element_size * 544

abbrev pub blank_at : ℕ
blank_at = tags_at + tag_size * 517

abbrev pub generations_at : ℕ
generations_at = blank_at + (tag_size + 28)

abbrev pub masks_at : ℕ
masks_at = generations_at + 517

abbrev pub search_at : ℕ
search_at = masks_at + 544

abbrev pub parameters_at : ℕ
parameters_at = search_at + (search_size + 23)

abbrev pub log_at : ℕ
log_at = parameters_at + 1024

-- the number of a table, and where it begins
abbrev pub number_of : Table → ℕ
number_of Head = HEAD
number_of Elements = ELEMENTS
number_of Tags = TAGS
number_of Blank = BLANK
number_of Generations = GENERATIONS
number_of Masks = MASKS
number_of Search = SEARCH

abbrev pub begin_of : Table → ℕ
begin_of Head = 0
begin_of Elements = elements_at
begin_of Tags = tags_at
begin_of Blank = blank_at
begin_of Generations = generations_at
begin_of Masks = masks_at
begin_of Search = search_at

-- the table that a word speaks of
abbrev pub table_of : Word → Table
table_of word.LengthElements = Elements
table_of word.Elements = Elements
table_of word.Volumes = Tags
table_of word.Label = Tags
table_of word.LengthTags = Tags
table_of word.Tags = Tags
table_of word.LengthBlank = Blank
table_of word.Blank = Blank
table_of word.LengthGenerations = Generations
table_of word.Generations = Generations
table_of word.LengthMasks = Masks
table_of word.Masks = Masks
table_of word.LengthSearch = Search
table_of word.Search = Search
table_of _ = Head
