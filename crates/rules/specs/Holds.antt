-- RESERVE, RELEASE and PREVENT ALLOW, from step 5 on. Assumes nothing.
use Rattle.std.specs.Prelude.{ℕ, zero, suc, ◌+◌, ◌*◌, ◌-◌, ◌/◌, ◌%◌, List, [], ◌∷◌, Bool, length, eqb, ltb}
use Rattle.rules.specs.Choice.{when, any_of, all_of, differ, any_from}
use Rattle.rules.specs.Bytes.{byte, word}
use Rattle.rules.specs.Tables.{Tables, descriptor_size, most_descriptors, places, unit, mask, holder, id, allowing, preventing, Change, HoldUnit, Prevent, Hold, Free, Under, Every}
use Rattle.rules.specs.Roster.{Slot, roster, place_of, kind_of}
use Rattle.rules.specs.Order.{Verdict, ListLength, ListField, WrongAddress, good, refused, conflict, other}

-- ---- the block: "byte 1 bit 0 Element, bits 1-4 third party, byte 2 id"

-- Element is 0: the unit
unfoldable pub of_unit : List ℕ → Bool
of_unit block = eqb (byte block 1 % 2) 0

-- ---- the list: "1 to 32 descriptors of 6 bytes: two zero bytes, number n, address"

-- how many descriptors a list holds
unfoldable pub descriptors : List ℕ → ℕ
descriptors list = length list / descriptor_size

unfoldable pub wrong_list_length : List ℕ → Bool
wrong_list_length list = any_of (eqb (length list) 0 ∷ ltb (most_descriptors * descriptor_size) (length list) ∷ differ (length list % descriptor_size) 0 ∷ [])

-- of the k-th descriptor, from 0
unfoldable pub reserved_bytes : List ℕ → ℕ → ℕ
reserved_bytes list k = word list (descriptor_size * k)

unfoldable pub number : List ℕ → ℕ → ℕ
number list k = word list (descriptor_size * k + 2)

unfoldable pub address : List ℕ → ℕ → ℕ
address list k = word list (descriptor_size * k + 4)

-- "It names n elements in table order from that address, 0 meaning through the last": the first place, and how many
unfoldable pub first : List Slot → List ℕ → ℕ → ℕ
first ss list k = place_of ss (address list k)

unfoldable pub many : List Slot → List ℕ → ℕ → ℕ
many ss list k = when (eqb (number list k) 0) (length ss - first ss list k) (number list k)

-- "an unknown address or too many is 5/21/01"
unfoldable pub unknown : List Slot → List ℕ → ℕ → Bool
unknown ss list k = eqb (kind_of ss (address list k)) 0

unfoldable pub too_many : List Slot → List ℕ → ℕ → Bool
too_many ss list k = ltb (length ss) (first ss list k + many ss list k)

-- descriptors j and k name an element in common
unfoldable pub meet : List Slot → List ℕ → ℕ → ℕ → Bool
meet ss list k j =
    all_of (ltb (first ss list j) (first ss list k + many ss list k) ∷ ltb (first ss list k) (first ss list j + many ss list j) ∷ [])

-- an element that an earlier descriptor names ("already specified in another element descriptor", document 001): one more wrong address
unfoldable pub named_before : List Slot → List ℕ → ℕ → Bool
named_before ss list k = any_from (meet ss list k) k 0

unfoldable pub wrong_address : List Slot → List ℕ → ℕ → Bool
wrong_address ss list k = any_of (unknown ss list k ∷ too_many ss list k ∷ named_before ss list k ∷ [])

-- "Descriptors are judged in order, reserved bytes before the address; the first fault is told, and a fault in any descriptor comes
-- before 18h": the n descriptors from k on, then the rest
unfoldable pub faults_from : List Slot → ℕ → List ℕ → ℕ → ℕ → Verdict → Verdict
faults_from ss h list zero k rest = rest
faults_from ss h list (suc n) k rest =
    when (differ (reserved_bytes list k) 0) (refused h ListField)
    (when (wrong_address ss list k) (refused h WrongAddress) (faults_from ss h list n (suc k) rest))

-- "An element held by another host, or by this host under another id, gives 18h."
unfoldable pub taken : List ℕ → ℕ → ℕ → ℕ → Bool
taken elements h i p =
    any_of (other h (holder elements p) ∷ all_of (eqb (holder elements p) h ∷ differ (id elements p) i ∷ []) ∷ [])

-- one of those that the k-th descriptor names
unfoldable pub takes : List Slot → List ℕ → ℕ → ℕ → List ℕ → ℕ → Bool
takes ss elements h i list k = any_from (taken elements h i) (many ss list k) (first ss list k)

unfoldable pub conflicts : List Slot → List ℕ → ℕ → ℕ → List ℕ → Bool
conflicts ss elements h i list = any_from (takes ss elements h i list) (descriptors list) 0

-- "then those named are held": by the n descriptors from k on
unfoldable pub holds_from : List Slot → ℕ → ℕ → List ℕ → ℕ → ℕ → List Change
holds_from ss h i list zero k = []
holds_from ss h i list (suc n) k = Hold (first ss list k) (many ss list k) h i ∷ holds_from ss h i list n (suc k)

-- "If granted, this host's old elements of that id are freed, then those named are held."
unfoldable pub granted : List Slot → ℕ → ℕ → List ℕ → List Change
granted ss h i list = Free (Under h i) ∷ holds_from ss h i list (descriptors list) 0

-- ---- RESERVE

-- "refused 18h if another host holds any element, else the host holds the unit"
unfoldable pub reserve_unit : Tables → ℕ → Verdict
reserve_unit t h =
    when (any_from (λ p. other h (holder t.elements p)) (places t.elements) 0) (conflict h) (good h (HoldUnit h ∷ []))

unfoldable pub reserve_elements : Tables → ℕ → ℕ → List ℕ → Verdict
reserve_elements t h i list =
    when (wrong_list_length list) (refused h ListLength)
    (faults_from (roster t.head) h list (descriptors list) 0
    (when (conflicts (roster t.head) t.elements h i list) (conflict h) (good h (granted (roster t.head) h i list))))

-- "Element 0: .. id ignored": that its list is empty is judged in step 4
unfoldable pub reserve : Tables → ℕ → List ℕ → List ℕ → Verdict
reserve t h block list = when (of_unit block) (reserve_unit t h) (reserve_elements t h (byte block 2) list)

-- ---- RELEASE: "bytes 1 and 2 as RESERVE .. Holding nothing is GOOD."

-- "Element 0, id ignored, frees the unit, if held by this host, and all its elements"
unfoldable pub release_unit : Tables → ℕ → List Change
release_unit t h = when (eqb (unit t.head) h) (HoldUnit 0 ∷ Free (Every h) ∷ []) (Free (Every h) ∷ [])

-- "Element 1 frees those of the id."
unfoldable pub release : Tables → ℕ → List ℕ → Verdict
release t h block = when (of_unit block) (good h (release_unit t h)) (good h (Free (Under h (byte block 2)) ∷ []))

-- ---- PREVENT ALLOW: "byte 4 bit 0 sets or clears the host's mask bit"

unfoldable pub new_mask : ℕ → ℕ → List ℕ → ℕ
new_mask m h block = when (eqb (byte block 4 % 2) 0) (allowing m h) (preventing m h)

unfoldable pub prevent : Tables → ℕ → List ℕ → Verdict
prevent t h block = good h (Prevent (new_mask (mask t.head) h block) ∷ [])
