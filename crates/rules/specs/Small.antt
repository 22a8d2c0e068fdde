-- "The small library": its tables, the blocks of its cases, and a row for each case with the outcome whole. Assumes nothing.
use Rattle.std.specs.Prelude.{ℕ, ◌-◌, List, [], ◌∷◌, ◌++◌, length, replicate}
use Rattle.rules.specs.Bytes.{three, high, low, put}
use Rattle.rules.specs.Tables.{Tables, template_size, lent, others}
use Rattle.rules.specs.Order.{Outcome}
use Rattle.rules.specs.Search.{no_search}
use Rattle.rules.specs.Command.{Call, Command}

-- "Transport 0001h, import/export 0010h, drive 0100h, storage 1000h to 1003h": in the head's order transport, storage, import/export, drive
unfoldable pub small_ranges : List ℕ
small_ranges = 0x00 ∷ 0x01 ∷ 0 ∷ 1 ∷ 0x10 ∷ 0x00 ∷ 0 ∷ 4 ∷ 0x00 ∷ 0x10 ∷ 0 ∷ 1 ∷ 0x01 ∷ 0x00 ∷ 0 ∷ 1 ∷ []

-- the five bytes of a host: sense key, ASC, ASCQ, attention ASC, ASCQ
pub record Host : Type 0 where
  pub key : ℕ
  pub asc : ℕ
  pub ascq : ℕ
  pub attention : ℕ
  pub attentionq : ℕ

unfoldable pub host_bytes : Host → List ℕ
host_bytes h = h.key ∷ h.asc ∷ h.ascq ∷ h.attention ∷ h.attentionq ∷ []

unfoldable pub quiet : Host
quiet = record { key = 0; asc = 0; ascq = 0; attention = 0; attentionq = 0 }

unfoldable pub senses : ℕ → ℕ → ℕ → Host
senses k a q = record { key = k; asc = a; ascq = q; attention = 0; attentionq = 0 }

unfoldable pub awaits : ℕ → ℕ → Host
awaits a q = record { key = 0; asc = 0; ascq = 0; attention = a; attentionq = q }

-- the head: empty shelves, unit holder, prevent mask, hosts 1, 2 and 3 to 8
unfoldable pub head_showing : ℕ → ℕ → ℕ → Host → Host → Host → List ℕ
head_showing free unit mask one two rest =
    small_ranges ++ (unit ∷ mask ∷ [])
    ++ host_bytes one ++ host_bytes two ++ host_bytes rest ++ host_bytes rest ++ host_bytes rest ++ host_bytes rest ++ host_bytes rest ++ host_bytes rest
    ++ (high free ∷ low free ∷ [])

-- two of the four shelves are empty
unfoldable pub head_of : ℕ → ℕ → Host → Host → Host → List ℕ
head_of unit mask one two rest = head_showing 2 unit mask one two rest

-- an element's eight bytes: volume, source, holder, id, mark
unfoldable pub element : ℕ → ℕ → ℕ → ℕ → ℕ → List ℕ
element volume source holder id mark = high volume ∷ low volume ∷ high source ∷ low source ∷ holder ∷ id ∷ mark ∷ 0 ∷ []

unfoldable pub empty : List ℕ
empty = element 0 0 0 0 0

-- a volume that the arm has not moved yet
unfoldable pub loaded : ℕ → List ℕ
loaded volume = element volume 0 0 0 0

-- the elements in address order: transport (empty), import/export, drive, the four shelves
unfoldable pub elements_of : List ℕ → List ℕ → List ℕ → List ℕ → List ℕ → List ℕ → List ℕ
elements_of port drive a b c d = empty ++ port ++ drive ++ a ++ b ++ c ++ d

-- three volume numbers: 1 and 2 in the library, 3 outside
unfoldable pub small_tags : List ℕ
small_tags = replicate 36 0x41 ++ replicate 36 0x42 ++ replicate 36 0x43

unfoldable pub small_blank : List ℕ
small_blank = replicate 36 0x20

-- "In the small library both volumes are of generation 1 and the drive takes it.": the third is of it too
unfoldable pub small_generations : List ℕ
small_generations = 1 ∷ 1 ∷ 1 ∷ []

unfoldable pub small_masks : List ℕ
small_masks = 0x01 ∷ []

-- volumes of these generations, and a drive that takes those of a mask
unfoldable pub library_of : List ℕ → List ℕ → List ℕ → List ℕ → Tables
library_of generations masks head elements = lent head elements (others small_tags small_blank generations masks no_search)

unfoldable pub library : List ℕ → List ℕ → Tables
library head elements = library_of small_generations small_masks head elements

-- "no source, holder, sense or attention"; so many shelves are empty
unfoldable pub quiet_showing : ℕ → List ℕ
quiet_showing free = head_showing free 0 0 quiet quiet quiet

unfoldable pub quiet_head : List ℕ
quiet_head = quiet_showing 2

-- "Volume 1 at 1000h, 2 at 1002h"
unfoldable pub small_elements : List ℕ
small_elements = elements_of empty empty (loaded 1) empty (loaded 2) empty

unfoldable pub small : Tables
small = library quiet_head small_elements

-- ---- blocks

unfoldable pub move_block : ℕ → ℕ → List ℕ
move_block from to = 0xA5 ∷ 0 ∷ 0 ∷ 0 ∷ high from ∷ low from ∷ high to ∷ low to ∷ 0 ∷ 0 ∷ 0 ∷ 0 ∷ []

unfoldable pub exchange_block : ℕ → ℕ → ℕ → List ℕ
exchange_block from first second =
    0xA6 ∷ 0 ∷ 0 ∷ 0 ∷ high from ∷ low from ∷ high first ∷ low first ∷ high second ∷ low second ∷ 0 ∷ 0 ∷ []

-- the block of a MOVE or EXCHANGE with a transport named: "bytes 2-3 transport"
unfoldable pub by_arm : ℕ → List ℕ → List ℕ
by_arm arm block = put block 2 (high arm ∷ low arm ∷ [])

-- byte 1 (tags and type), start 0, most elements, allocation
unfoldable pub read_block : ℕ → ℕ → ℕ → List ℕ
read_block options most allocation = 0xB8 ∷ options ∷ 0 ∷ 0 ∷ high most ∷ low most ∷ 0 ∷ three allocation ++ (0 ∷ 0 ∷ [])

-- RESERVE of elements under an id, with a list of so many bytes
unfoldable pub reserve_block : ℕ → ℕ → List ℕ
reserve_block id bytes = 0x16 ∷ 1 ∷ id ∷ high bytes ∷ low bytes ∷ 0 ∷ []

-- a descriptor of RESERVE's list
unfoldable pub naming : ℕ → ℕ → List ℕ
naming number address = 0 ∷ 0 ∷ high number ∷ low number ∷ high address ∷ low address ∷ []

-- ---- labels and searches

-- a label, or a template of 32 bytes, that begins with these and goes on with a byte
unfoldable pub filled_up : ℕ → List ℕ → List ℕ
filled_up b name = name ++ replicate (template_size - length name) b

-- "Unused positions shall be blank (20h) filled"; the sequence number stands in the last two of 36 bytes
unfoldable pub label_with : List ℕ → ℕ → List ℕ
label_with name sequence = filled_up 0x20 name ++ (0 ∷ 0 ∷ high sequence ∷ low sequence ∷ [])

-- FILM01 with sequence number 1 at 1000h, FILM02 with 7 at 1002h; TEST outside
unfoldable pub film_tags : List ℕ
film_tags =
    label_with (0x46 ∷ 0x49 ∷ 0x4C ∷ 0x4D ∷ 0x30 ∷ 0x31 ∷ []) 1 ++ label_with (0x46 ∷ 0x49 ∷ 0x4C ∷ 0x4D ∷ 0x30 ∷ 0x32 ∷ []) 7
    ++ label_with (0x54 ∷ 0x45 ∷ 0x53 ∷ 0x54 ∷ []) 1

unfoldable pub films : List ℕ → List ℕ → List ℕ → Tables
films search head elements = lent head elements (others film_tags small_blank small_generations small_masks search)

-- a search: template, type, action, least and greatest sequence number, next address
unfoldable pub search_of : List ℕ → ℕ → ℕ → ℕ → ℕ → ℕ → List ℕ
search_of name type action least greatest next =
    filled_up 0 name ++ (type ∷ action ∷ high least ∷ low least ∷ high greatest ∷ low greatest ∷ three next)

-- SEND VOLUME TAG: type, start, action, and a list of so many bytes
unfoldable pub tag_block : ℕ → ℕ → ℕ → ℕ → List ℕ
tag_block type start action bytes = 0xB6 ∷ type ∷ high start ∷ low start ∷ 0 ∷ action ∷ 0 ∷ 0 ∷ high bytes ∷ low bytes ∷ 0 ∷ 0 ∷ []

-- its list: template, least and greatest sequence number
unfoldable pub tag_list : List ℕ → ℕ → ℕ → List ℕ
tag_list name least greatest = filled_up 0 name ++ (0 ∷ 0 ∷ high least ∷ low least ∷ 0 ∷ 0 ∷ high greatest ∷ low greatest ∷ [])

-- REQUEST VOLUME ELEMENT ADDRESS: byte 1 (tags and type), start, most elements, allocation
unfoldable pub request_block : ℕ → ℕ → ℕ → ℕ → List ℕ
request_block options start most allocation =
    0xB5 ∷ options ∷ high start ∷ low start ∷ high most ∷ low most ∷ 0 ∷ high allocation ∷ low allocation ∷ 0 ∷ 0 ∷ 0 ∷ []

-- ---- calls

unfoldable pub sends : ℕ → List ℕ → List ℕ → List ℕ → Call
sends host block parameters buffer = Command (record { host = host; block = block; parameters = parameters; buffer = buffer })

-- host 1, no parameters, no buffer
unfoldable pub asks : List ℕ → Call
asks block = sends 1 block [] []

-- a buffer with something in it, to be seen past the count
unfoldable pub lent_buffer : ℕ → List ℕ
lent_buffer n = replicate n 0xEE

-- ---- outcomes

-- status and tables of a call with house number 0 that returns nothing
unfoldable pub ends_on : ℕ → Tables → Outcome
ends_on status t = record { number = 0; status = status; count = 0; preventers = 0; lowest = 0; tables = t; buffer = [] }

-- status, count, head, elements, buffer of a call with house number 0
unfoldable pub ends : ℕ → ℕ → List ℕ → List ℕ → List ℕ → Outcome
ends status count head elements buffer =
    record { number = 0; status = status; count = count; preventers = 0; lowest = 0; tables = library head elements; buffer = buffer }

-- CHECK CONDITION of host 1 on the small library
unfoldable pub checks : ℕ → ℕ → ℕ → Outcome
checks k a q = ends 0x02 0 (head_of 0 0 (senses k a q) quiet quiet) small_elements []

-- refused by a house number, tables and buffer as they were
unfoldable pub refuses : ℕ → Tables → List ℕ → Outcome
refuses n t buffer =
    record { number = n; status = 0; count = 0; preventers = 0; lowest = 0; tables = t; buffer = buffer }
