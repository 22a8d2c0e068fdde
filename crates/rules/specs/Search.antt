-- "Find by label": SEND VOLUME TAG, what matches, and REQUEST VOLUME ELEMENT ADDRESS. Assumes nothing.
use Rattle.std.specs.Prelude.{ℕ, zero, suc, ◌-◌, ◌%◌, List, [], ◌∷◌, ◌++◌, Bool, true, false, length, take, replicate, eqb, leb}
use Rattle.rules.specs.Choice.{when, any_of, all_of, differ, any_from}
use Rattle.rules.specs.Bytes.{byte, word, three}
use Rattle.rules.specs.Tables.{Tables, search_size, template_size, behind_last, places, unit, holder, volume, search_type, action, least, greatest, next_address, Sense, Seek, GoOn}
use Rattle.rules.specs.Roster.{Slot, roster}
use Rattle.rules.specs.Order.{Verdict, Done, GOOD, ListLength, ListField, good, refused, conflict, other, after_attention}
use Rattle.rules.specs.Listing.{with_tags, type_code, keep, of_type, at_or_above, label, chosen_of, pages_of, wholes, listing}

-- ---- step 3 of both: "18h if any other host holds unit or element, at step 3"

unfoldable pub others_hold : Tables → ℕ → Bool
others_hold t h = any_of (other h (unit t.head) ∷ any_from (λ p. other h (holder t.elements p)) (places t.elements) 0 ∷ [])

unfoldable pub after_others : Tables → ℕ → Verdict → Verdict
after_others t h rest = when (others_hold t h) (conflict h) rest

unfoldable pub alone : Tables → ℕ → Verdict → Verdict
alone t h rest = after_attention t h (after_others t h rest)

-- ---- SEND VOLUME TAG

-- "SEND ACTION CODE", bits 0-4 of byte 5: "actions 1h and 5h (primary tags)"
unfoldable pub action_code : List ℕ → ℕ
action_code block = byte block 5 % 32

unfoldable pub known_action : ℕ → Bool
known_action a = any_of (eqb a 1 ∷ eqb a 5 ∷ [])

-- "VOLUME IDENTIFICATION TEMPLATE" (32), reserved (2), least sequence number (2), reserved (2), greatest (2)
abbrev pub tag_list_size : ℕ
tag_list_size = 40

unfoldable pub reserved_tags : List ℕ → Bool
reserved_tags list = any_of (differ (byte list 32) 0 ∷ differ (byte list 33) 0 ∷ differ (byte list 36) 0 ∷ differ (byte list 37) 0 ∷ [])

-- the search that a block and its list begin, from the block's start on: "template, type, range and next address"
unfoldable pub search_for : List ℕ → List ℕ → List ℕ
search_for block list =
    take template_size list
    ++ (type_code block ∷ action_code block ∷ byte list 34 ∷ byte list 35 ∷ byte list 38 ∷ byte list 39 ∷ three (word block 2 % behind_last))

-- from step 5 on: "other than 40 is 5/1A/00"; "A new search replaces it"
unfoldable pub send_tag : Tables → ℕ → List ℕ → List ℕ → Verdict
send_tag t h block list =
    when (differ (length list) tag_list_size) (refused h ListLength)
    (when (reserved_tags list) (refused h ListField) (good h (Seek (search_for block list) ∷ [])))

-- "reset clears it"; "All zeros means no search"
unfoldable pub no_search : List ℕ
no_search = replicate search_size 0

-- ---- what matches

-- "'*' will match any string of characters. When it appears in a template the remainder of the template .. is not used."
abbrev pub ANY-STRING : ℕ
ANY-STRING = 0x2A

-- "'?' will match any single character"
abbrev pub ANY-CHARACTER : ℕ
ANY-CHARACTER = 0x3F

-- n bytes of the template, from byte i on, agree with those of a label
unfoldable pub agrees_from : List ℕ → List ℕ → ℕ → ℕ → Bool
agrees_from template shown zero i = true
agrees_from template shown (suc n) i =
    when (eqb (byte template i) ANY-STRING) true
    (when (any_of (eqb (byte template i) ANY-CHARACTER ∷ eqb (byte template i) (byte shown i) ∷ [])) (agrees_from template shown n (suc i)) false)

-- the sequence number of a label, its bytes 34 and 35, is in the search's range; 5h: "ignore sequence numbers"
unfoldable pub in_range : List ℕ → List ℕ → Bool
in_range search shown = when (eqb (action search) 1) (all_of (leb (least search) (word shown 34) ∷ leb (word shown 34) (greatest search) ∷ [])) true

unfoldable pub label_matches : List ℕ → List ℕ → Bool
label_matches search shown = all_of (agrees_from search shown template_size 0 ∷ in_range search shown ∷ [])

-- "only full elements match"
unfoldable pub volume_matches : Tables → ℕ → Bool
volume_matches t v = all_of (differ v 0 ∷ label_matches t.rest.search (label t.rest.tags t.rest.blank v) ∷ [])

-- an element may be told: there is a search, for its type, that has not yet come past it, and it matches: "Matches are judged when reported"
unfoldable pub found : Tables → Slot → Bool
found t s =
    all_of
    (differ (action t.rest.search) 0
    ∷ of_type (search_type t.rest.search) s
    ∷ at_or_above (next_address t.rest.search) s
    ∷ volume_matches t (volume t.elements s.place)
    ∷ [])

-- ---- REQUEST VOLUME ELEMENT ADDRESS

-- of these, "The rule for chosen elements is shared with READ ELEMENT STATUS."
unfoldable pub found_by : Tables → List ℕ → List Slot
found_by t block = chosen_of (keep (found t) (roster t.head)) block

-- "only descriptors returned whole count as told"
unfoldable pub told_by : Tables → List ℕ → List Slot
told_by t block = take (wholes (word block 7 - 8) (pages_of (with_tags block) t (found_by t block))) (found_by t block)

-- the address behind the last of elements; as it was where there is none: "no address is told twice in one search"
unfoldable pub behind_all : ℕ → List Slot → ℕ
behind_all a [] = a
behind_all a (s ∷ ss) = behind_all (suc s.address) ss

-- from step 5 on
unfoldable pub request_address : Tables → ℕ → List ℕ → Verdict
request_address t h block =
    Done GOOD (listing (action t.rest.search) (with_tags block) t (word block 7) (found_by t block))
    (Sense h 0 0 0 ∷ GoOn (behind_all (next_address t.rest.search) (told_by t block)) ∷ [])
