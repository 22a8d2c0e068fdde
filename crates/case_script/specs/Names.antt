-- The words of a case file, and what belongs to each. Assumes nothing.
use Rattle.std.specs.Prelude.{List, [], ◌∷◌, ℕ, Option, Some, None, Bool, true, false}
use Rattle.rules.specs.Choice.{when}
use Rattle.case_text.specs.Text.{letters, same_word}
use Rattle.case_script.specs.declared.word.Word.{Word}
use Rattle.case_script.specs.declared.word.Word.TheVariants as word
use Rattle.case_script.specs.declared.shape.Shape.{Shape}
use Rattle.case_script.specs.declared.shape.Shape.TheVariants as shape
use Rattle.case_script.specs.declared.class.Class.{Class}
use Rattle.case_script.specs.declared.class.Class.TheVariants as class

-- how the words are written; `tables` has a second word, which a name behind it means
unfoldable pub names : List (List ℕ × Word)
names =
    (letters "case", word.Case) ∷
    (letters "tables", word.TablesSmall) ∷
    (letters "transport", word.Transport) ∷
    (letters "storage", word.Storage) ∷
    (letters "port", word.Port) ∷
    (letters "drive", word.Drive) ∷
    (letters "volumes", word.Volumes) ∷
    (letters "label", word.Label) ∷
    (letters "length-head", word.LengthHead) ∷
    (letters "length-elements", word.LengthElements) ∷
    (letters "length-tags", word.LengthTags) ∷
    (letters "length-blank", word.LengthBlank) ∷
    (letters "length-generations", word.LengthGenerations) ∷
    (letters "length-masks", word.LengthMasks) ∷
    (letters "length-search", word.LengthSearch) ∷
    (letters "host", word.Host) ∷
    (letters "buffer", word.Buffer) ∷
    (letters "parameters", word.Parameters) ∷
    (letters "log", word.Log) ∷
    (letters "log-bytes", word.LogBytes) ∷
    (letters "command", word.Command) ∷
    (letters "import", word.Import) ∷
    (letters "export", word.Export) ∷
    (letters "reset", word.Reset) ∷
    (letters "replay", word.Replay) ∷
    (letters "resume", word.Resume) ∷
    (letters "number", word.Number) ∷
    (letters "status", word.Status) ∷
    (letters "count", word.Count) ∷
    (letters "preventers", word.Preventers) ∷
    (letters "lowest", word.Lowest) ∷
    (letters "lines", word.Lines) ∷
    (letters "place", word.Place) ∷
    (letters "expected", word.Expected) ∷
    (letters "answer", word.Answer) ∷
    (letters "volume", word.Volume) ∷
    (letters "source", word.Source) ∷
    (letters "holder", word.Holder) ∷
    (letters "id", word.Id) ∷
    (letters "mark", word.Mark) ∷
    (letters "unit", word.Unit) ∷
    (letters "mask", word.Mask) ∷
    (letters "free", word.Free) ∷
    (letters "sense", word.Sense) ∷
    (letters "attention", word.Attention) ∷
    (letters "head", word.Head) ∷
    (letters "elements", word.Elements) ∷
    (letters "tags", word.Tags) ∷
    (letters "blank", word.Blank) ∷
    (letters "generations", word.Generations) ∷
    (letters "masks", word.Masks) ∷
    (letters "search", word.Search) ∷
    (letters "kept", word.Kept) ∷ []

-- the first of the words that is written so
abbrev pub place_from : List ℕ → List (List ℕ × Word) → Option Word
place_from w [] = None
place_from w (n ∷ ns) = when (same_word w n.0) (Some n.1) (place_from w ns)

unfoldable pub code_of : List ℕ → Option Word
code_of w = place_from w names

-- what belongs to a word
abbrev pub shape_of : Word → Shape
shape_of word.Case = shape.Name
shape_of word.TablesSmall = shape.Tables
shape_of word.TablesEmpty = shape.Tables
shape_of word.Transport = shape.Two
shape_of word.Storage = shape.Two
shape_of word.Port = shape.Two
shape_of word.Drive = shape.Two
shape_of word.Volumes = shape.One
shape_of word.Label = shape.NumberAndBytes
shape_of word.LengthHead = shape.One
shape_of word.LengthElements = shape.One
shape_of word.LengthTags = shape.One
shape_of word.LengthBlank = shape.One
shape_of word.LengthGenerations = shape.One
shape_of word.LengthMasks = shape.One
shape_of word.LengthSearch = shape.One
shape_of word.Host = shape.One
shape_of word.Buffer = shape.One
shape_of word.Parameters = shape.Bytes
shape_of word.Log = shape.Text
shape_of word.LogBytes = shape.Bytes
shape_of word.Command = shape.Bytes
shape_of word.Import = shape.Two
shape_of word.Export = shape.One
shape_of word.Reset = shape.Nothing
shape_of word.Replay = shape.Two
shape_of word.Resume = shape.One
shape_of word.Number = shape.One
shape_of word.Status = shape.One
shape_of word.Count = shape.One
shape_of word.Preventers = shape.One
shape_of word.Lowest = shape.One
shape_of word.Lines = shape.One
shape_of word.Place = shape.One
shape_of word.Expected = shape.One
shape_of word.Answer = shape.NumberAndBytes
shape_of word.Volume = shape.Two
shape_of word.Source = shape.Two
shape_of word.Holder = shape.Two
shape_of word.Id = shape.Two
shape_of word.Mark = shape.Two
shape_of word.Unit = shape.One
shape_of word.Mask = shape.One
shape_of word.Free = shape.One
shape_of word.Sense = shape.NumberAndThreeBytes
shape_of word.Attention = shape.NumberAndTwoBytes
shape_of word.Head = shape.NumberAndBytes
shape_of word.Elements = shape.NumberAndBytes
shape_of word.Tags = shape.NumberAndBytes
shape_of word.Blank = shape.NumberAndBytes
shape_of word.Generations = shape.NumberAndBytes
shape_of word.Masks = shape.NumberAndBytes
shape_of word.Search = shape.NumberAndBytes
shape_of word.Kept = shape.Nothing

-- what a word is for: `case`; tables as a whole, a range, a length, a label; what the calls that follow are given, a call of a command or an
-- event, of a replay; then what is expected, of the reply, of a replay's end, of the answer, of an element, of the unit, of a host's record, of a
-- table's bytes, that they were kept
abbrev pub class_of : Word → Class
class_of word.Case = class.Case
class_of word.TablesSmall = class.Whole
class_of word.TablesEmpty = class.Whole
class_of word.Transport = class.Range
class_of word.Storage = class.Range
class_of word.Port = class.Range
class_of word.Drive = class.Range
class_of word.Volumes = class.Length
class_of word.Label = class.Label
class_of word.LengthHead = class.Length
class_of word.LengthElements = class.Length
class_of word.LengthTags = class.Length
class_of word.LengthBlank = class.Length
class_of word.LengthGenerations = class.Length
class_of word.LengthMasks = class.Length
class_of word.LengthSearch = class.Length
class_of word.Host = class.Ahead
class_of word.Buffer = class.Ahead
class_of word.Parameters = class.Ahead
class_of word.Log = class.Ahead
class_of word.LogBytes = class.Ahead
class_of word.Command = class.Call
class_of word.Import = class.Call
class_of word.Export = class.Call
class_of word.Reset = class.Call
class_of word.Replay = class.Replay
class_of word.Resume = class.Replay
class_of word.Number = class.Reply
class_of word.Status = class.Reply
class_of word.Count = class.Reply
class_of word.Preventers = class.Reply
class_of word.Lowest = class.Reply
class_of word.Lines = class.Replayed
class_of word.Place = class.Replayed
class_of word.Expected = class.Replayed
class_of word.Answer = class.Answer
class_of word.Volume = class.Element
class_of word.Source = class.Element
class_of word.Holder = class.Element
class_of word.Id = class.Element
class_of word.Mark = class.Element
class_of word.Unit = class.Unit
class_of word.Mask = class.Unit
class_of word.Free = class.Unit
class_of word.Sense = class.Record
class_of word.Attention = class.Record
class_of word.Head = class.Table
class_of word.Elements = class.Table
class_of word.Tags = class.Table
class_of word.Blank = class.Table
class_of word.Generations = class.Table
class_of word.Masks = class.Table
class_of word.Search = class.Table
class_of word.Kept = class.Kept

-- "Words that can be set": those of an element, of the unit, of a host's record and of a table's bytes
abbrev pub settable : Class → Bool
settable class.Element = true
settable class.Unit = true
settable class.Record = true
settable class.Table = true
settable _ = false

abbrev pub can_be_set : Word → Bool
can_be_set word = settable (class_of word)
