-- "The lent tables": as they lie, each field by its name, each write by its name. The numbers of the layout stand here and, for the ranges,
-- with the roster, and nowhere else.
-- Assumes nothing.
use Rattle.std.specs.Prelude.{ℕ, ◌+◌, ◌*◌, ◌-◌, ◌/◌, ◌%◌, ◌^◌, List, [], ◌∷◌, Bool, length, get_or, eqb}
use Rattle.rules.specs.Choice.{when, each, all_of}
use Rattle.rules.specs.Bytes.{byte, word, triple, three, put, high, low}
use Rattle.rules.specs.Roster.{Slot, roster, storage}

-- the tables beside the head and the elements; of these a call writes the search alone
pub record Rest : Type 0 where
  pub tags : List ℕ
  pub blank : List ℕ
  -- "generation 1 to 8 for each volume"
  pub generations : List ℕ
  -- "for each drive a mask"
  pub masks : List ℕ
  -- "One search is kept for the unit in a further lent table"
  pub search : List ℕ

pub record Tables : Type 0 where
  pub head : List ℕ
  pub elements : List ℕ
  pub rest : Rest

abbrev pub lent : List ℕ → List ℕ → Rest → Tables
lent head elements rest = record { head = head; elements = elements; rest = rest }

-- all that is lent beside the head and the elements
abbrev pub others : List ℕ → List ℕ → List ℕ → List ℕ → List ℕ → Rest
others tags blank generations masks search = record { tags = tags; blank = blank; generations = generations; masks = masks; search = search }

-- with another search
abbrev pub searching : Rest → List ℕ → Rest
searching r search = others r.tags r.blank r.generations r.masks search

-- the same in a row, and back
abbrev pub row : Rest → List (List ℕ)
row r = r.tags ∷ r.blank ∷ r.generations ∷ r.masks ∷ r.search ∷ []

abbrev pub of_row : List (List ℕ) → Rest
of_row ts = others (get_or ts 0 []) (get_or ts 1 []) (get_or ts 2 []) (get_or ts 3 []) (get_or ts 4 [])

-- the labels, and every other table empty
abbrev pub labels : List ℕ → List ℕ → Rest
labels tags blank = others tags blank [] [] []

-- every one of them empty
abbrev pub bare : Rest
bare = labels [] []

-- ---- the sizes

-- "two further bytes (60 in all)"
abbrev pub head_size : ℕ
head_size = 60

-- "host 1 to 8"
abbrev pub hosts : ℕ
hosts = 8

-- "Elements, 8 bytes each"
abbrev pub element_size : ℕ
element_size = 8

-- "Tags, 36 bytes for each volume number"; "Blank label, 36 bytes"
abbrev pub tag_size : ℕ
tag_size = 36

-- the search: "template, type, range and next address", and the action
abbrev pub search_size : ℕ
search_size = 41

-- RESERVE's list: "descriptors of 6 bytes"
abbrev pub descriptor_size : ℕ
descriptor_size = 6

-- ---- the limits

-- "1 to 512 elements; 1 to 127 transports"
abbrev pub most_elements : ℕ
most_elements = 512

abbrev pub most_transports : ℕ
most_transports = 127

-- "V at most 512"
abbrev pub most_volumes : ℕ
most_volumes = 512

-- "generation 1 to 8"
abbrev pub most_generations : ℕ
most_generations = 8

-- "each range within 1 to 65,535": the address behind the last
abbrev pub behind_last : ℕ
behind_last = 65536

-- "1 to 32 descriptors"
abbrev pub most_descriptors : ℕ
most_descriptors = 32

-- ---- where the fields stand

-- "Byte 16: unit holder"
abbrev pub unit_at : ℕ
unit_at = 16

-- "Byte 17: prevent mask"
abbrev pub mask_at : ℕ
mask_at = 17

-- "Then for each host 5 bytes": the first host's begin at byte 18
abbrev pub host_size : ℕ
host_size = 5

abbrev pub hosts_at : ℕ
hosts_at = 18

-- host h's, the first being host 1
abbrev pub host_at : ℕ → ℕ
host_at h = hosts_at - host_size + host_size * h

-- the attention's two bytes stand behind key, ASC and ASCQ
abbrev pub attention_at : ℕ → ℕ
attention_at h = 3 + host_at h

-- "how many storage elements are empty .. in the head as two further bytes": its last two
abbrev pub panel_at : ℕ
panel_at = head_size - 2

abbrev pub element_at : ℕ → ℕ
element_at p = element_size * p

-- the search: a template of 32 bytes, then type, action, least and greatest sequence number, and the next address in three bytes
abbrev pub template_size : ℕ
template_size = 32

abbrev pub search_type_at : ℕ
search_type_at = template_size

abbrev pub action_at : ℕ
action_at = search_type_at + 1

abbrev pub least_at : ℕ
least_at = action_at + 1

abbrev pub greatest_at : ℕ
greatest_at = least_at + 2

abbrev pub next_at : ℕ
next_at = greatest_at + 2

-- how many records an element table holds
unfoldable pub places : List ℕ → ℕ
places elements = length elements / element_size

-- "for each volume number 1 to V"
unfoldable pub volumes : List ℕ → ℕ
volumes tags = length tags / tag_size

-- ---- the fields of the head

unfoldable pub unit : List ℕ → ℕ
unit head = byte head unit_at

unfoldable pub mask : List ℕ → ℕ
mask head = byte head mask_at

-- "sense key, ASC, ASCQ (zeros: none)" of host h
unfoldable pub key : List ℕ → ℕ → ℕ
key head h = byte head (host_at h)

unfoldable pub asc : List ℕ → ℕ → ℕ
asc head h = byte head (1 + host_at h)

unfoldable pub ascq : List ℕ → ℕ → ℕ
ascq head h = byte head (2 + host_at h)

-- "attention ASC, ASCQ (zeros: none)" of host h
unfoldable pub attention : List ℕ → ℕ → ℕ
attention head h = byte head (attention_at h)

unfoldable pub attentionq : List ℕ → ℕ → ℕ
attentionq head h = byte head (1 + attention_at h)

-- the number that the panel shows
unfoldable pub panel : List ℕ → ℕ
panel head = word head panel_at

-- ---- the fields of the element at a place

-- "volume number (2; 0 empty)"
unfoldable pub volume : List ℕ → ℕ → ℕ
volume elements p = word elements (element_at p)

-- "source address (2; 0 none)"
unfoldable pub source : List ℕ → ℕ → ℕ
source elements p = word elements (element_at p + 2)

-- "holder (1)"
unfoldable pub holder : List ℕ → ℕ → ℕ
holder elements p = byte elements (element_at p + 4)

-- "reservation id (1)"
unfoldable pub id : List ℕ → ℕ → ℕ
id elements p = byte elements (element_at p + 5)

-- "hand mark (1)"
unfoldable pub mark : List ℕ → ℕ → ℕ
mark elements p = byte elements (element_at p + 6)

-- "zero (1)"
unfoldable pub zero_byte : List ℕ → ℕ → ℕ
zero_byte elements p = byte elements (element_at p + 7)

-- ---- the fields of the search

-- "0 all types"
unfoldable pub search_type : List ℕ → ℕ
search_type search = byte search search_type_at

-- 1h or 5h; 0 where there is no search: "All zeros means no search"
unfoldable pub action : List ℕ → ℕ
action search = byte search action_at

-- "range": the least and the greatest sequence number
unfoldable pub least : List ℕ → ℕ
least search = word search least_at

unfoldable pub greatest : List ℕ → ℕ
greatest search = word search greatest_at

-- "next address": the lowest that may still be told; behind FFFFh it is 10000h
unfoldable pub next_address : List ℕ → ℕ
next_address search = triple search next_at

-- ---- "how many storage elements are empty"

-- an element of this type, with this volume, is one of them
unfoldable pub vacant : ℕ → ℕ → Bool
vacant kind v = all_of (eqb kind storage ∷ eqb v 0 ∷ [])

-- of the elements of a roster
unfoldable pub empty_shelves : List Slot → List ℕ → ℕ
empty_shelves [] elements = 0
empty_shelves (s ∷ ss) elements = when (vacant s.kind (volume elements s.place)) 1 0 + empty_shelves ss elements

-- ---- the prevent mask: "bit h-1 for host h"

abbrev pub host_bit : ℕ → ℕ
host_bit h = 2 ^ (h - 1)

unfoldable pub prevents : ℕ → ℕ → Bool
prevents m h = eqb (m / host_bit h % 2) 1

-- the mask with the host's bit cleared, and set
unfoldable pub allowing : ℕ → ℕ → ℕ
allowing m h = when (prevents m h) (m - host_bit h) m

unfoldable pub preventing : ℕ → ℕ → ℕ
preventing m h = when (prevents m h) m (m + host_bit h)

-- ---- the writes

-- host h's sense
unfoldable pub sensed : List ℕ → ℕ → ℕ → ℕ → ℕ → List ℕ
sensed head h k a q = put head (host_at h) (k ∷ a ∷ q ∷ [])

-- host h's attention
unfoldable pub attended : List ℕ → ℕ → ℕ → ℕ → List ℕ
attended head h a q = put head (attention_at h) (a ∷ q ∷ [])

-- host h's attention, if it has none
unfoldable pub announced_to : ℕ → ℕ → ℕ → List ℕ → List ℕ
announced_to a q h head = when (eqb (attention head h) 0) (attended head h a q) head

-- "set attention .. for each host with none"
unfoldable pub announced : List ℕ → ℕ → ℕ → List ℕ
announced head a q = each (announced_to a q) hosts 1 head

unfoldable pub unit_held : List ℕ → ℕ → List ℕ
unit_held head h = put head unit_at (h ∷ [])

unfoldable pub masked : List ℕ → ℕ → List ℕ
masked head m = put head mask_at (m ∷ [])

-- the number that the panel shows
unfoldable pub shown : List ℕ → ℕ → List ℕ
shown head n = put head panel_at (high n ∷ low n ∷ [])

-- volume, source and mark of the element at a place
unfoldable pub filled : List ℕ → ℕ → ℕ → ℕ → ℕ → List ℕ
filled elements p v s m = put (put elements (element_at p) (high v ∷ low v ∷ high s ∷ low s ∷ [])) (element_at p + 6) (m ∷ [])

-- holder and id of the element at a place
unfoldable pub held_at : ℕ → ℕ → ℕ → List ℕ → List ℕ
held_at h i p elements = put elements (element_at p + 4) (h ∷ i ∷ [])

-- holder and id of n elements from a place on
unfoldable pub held : List ℕ → ℕ → ℕ → ℕ → ℕ → List ℕ
held elements first n h i = each (held_at h i) n first elements

-- whose elements are freed: a host's of one id, all of a host's, everyone's
pub data Whose : Type 0 where
  Under : ℕ → ℕ → Whose
  Every : ℕ → Whose
  Anyone : Whose

unfoldable pub theirs : Whose → ℕ → ℕ → Bool
theirs (Under h i) owner number = all_of (eqb owner h ∷ eqb number i ∷ [])
theirs (Every h) owner number = eqb owner h
theirs Anyone owner number = Bool.true

unfoldable pub freed_at : Whose → ℕ → List ℕ → List ℕ
freed_at w p elements = when (theirs w (holder elements p) (id elements p)) (held_at 0 0 p elements) elements

unfoldable pub freed : Whose → List ℕ → List ℕ
freed w elements = each (freed_at w) (places elements) 0 elements

-- ---- the changes that a command or an event makes, by the table that they write

pub data HeadChange : Type 0 where
  -- host, key, ASC, ASCQ
  NewSense : ℕ → ℕ → ℕ → ℕ → HeadChange
  -- host, ASC, ASCQ
  NewAttention : ℕ → ℕ → ℕ → HeadChange
  -- ASC, ASCQ for each host with none
  NewForAll : ℕ → ℕ → HeadChange
  -- the unit's holder
  NewUnit : ℕ → HeadChange
  -- the prevent mask
  NewMask : ℕ → HeadChange

pub data ElementChange : Type 0 where
  -- place, volume, source, mark
  NewStock : ℕ → ℕ → ℕ → ℕ → ElementChange
  -- first place, how many, holder, id
  NewHolds : ℕ → ℕ → ℕ → ℕ → ElementChange
  NewlyFree : Whose → ElementChange

pub data SearchChange : Type 0 where
  -- "A new search replaces it": its bytes
  NewSearch : List ℕ → SearchChange
  -- the next address
  NewNext : ℕ → SearchChange

unfoldable pub in_head : HeadChange → List ℕ → List ℕ
in_head (NewSense h k a q) head = sensed head h k a q
in_head (NewAttention h a q) head = attended head h a q
in_head (NewForAll a q) head = announced head a q
in_head (NewUnit h) head = unit_held head h
in_head (NewMask m) head = masked head m

unfoldable pub in_elements : ElementChange → List ℕ → List ℕ
in_elements (NewStock p v s m) elements = filled elements p v s m
in_elements (NewHolds p n h i) elements = held elements p n h i
in_elements (NewlyFree w) elements = freed w elements

unfoldable pub in_search : SearchChange → List ℕ → List ℕ
in_search (NewSearch bytes) search = put search 0 bytes
in_search (NewNext a) search = put search next_at (three a)

pub data Change : Type 0 where
  OfHead : HeadChange → Change
  OfElements : ElementChange → Change
  OfSearch : SearchChange → Change
  -- the panel's number, by the elements as they then are
  Recount : Change

unfoldable pub change : Change → Tables → Tables
change (OfHead c) t = lent (in_head c t.head) t.elements t.rest
change (OfElements c) t = lent t.head (in_elements c t.elements) t.rest
change (OfSearch c) t = lent t.head t.elements (searching t.rest (in_search c t.rest.search))
change Recount t = lent (shown t.head (empty_shelves (roster t.head) t.elements)) t.elements t.rest

-- one change after another
unfoldable pub changes : List Change → Tables → Tables
changes [] t = t
changes (c ∷ cs) t = changes cs (change c t)

-- the changes by the names that the rules use
abbrev pub Sense : ℕ → ℕ → ℕ → ℕ → Change
Sense h k a q = OfHead (NewSense h k a q)

abbrev pub Attention : ℕ → ℕ → ℕ → Change
Attention h a q = OfHead (NewAttention h a q)

abbrev pub Announce : ℕ → ℕ → Change
Announce a q = OfHead (NewForAll a q)

abbrev pub HoldUnit : ℕ → Change
HoldUnit h = OfHead (NewUnit h)

abbrev pub Prevent : ℕ → Change
Prevent m = OfHead (NewMask m)

abbrev pub Fill : ℕ → ℕ → ℕ → ℕ → Change
Fill p v s m = OfElements (NewStock p v s m)

abbrev pub Hold : ℕ → ℕ → ℕ → ℕ → Change
Hold p n h i = OfElements (NewHolds p n h i)

abbrev pub Free : Whose → Change
Free w = OfElements (NewlyFree w)

abbrev pub Seek : List ℕ → Change
Seek bytes = OfSearch (NewSearch bytes)

abbrev pub GoOn : ℕ → Change
GoOn a = OfSearch (NewNext a)
