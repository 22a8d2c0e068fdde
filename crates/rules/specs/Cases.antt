-- The cases on the small library that document 01 marks for proof, and a row for each error that was shipped: tables, call, and the
-- outcome whole. Assumes nothing.
use Rattle.std.specs.Prelude.{ℕ, ◌*◌, ◌-◌, List, [], ◌∷◌, ◌++◌, Bool, true, false, length, replicate, take, drop, eqb}
use Rattle.rules.specs.Choice.{when, all_of}
use Rattle.rules.specs.Bytes.{high, low, put}
use Rattle.rules.specs.Tables.{Tables, element_size, row}
use Rattle.rules.specs.Order.{Outcome}
use Rattle.rules.specs.Command.{Call, Import, Export, Reset, serve}
use Rattle.rules.specs.Search.{no_search}
use Rattle.rules.specs.Small.{Host, host_bytes, quiet, senses, awaits, head_showing, head_of, quiet_showing, element, empty, loaded, elements_of, library_of, library, quiet_head, small_elements, small, move_block, exchange_block, by_arm, read_block, reserve_block, naming, filled_up, films, search_of, tag_block, tag_list, request_block, sends, asks, lent_buffer, ends_on, ends, checks, refuses}

pub data Name : Type 0 where
  P1 : Name
  P2 : Name
  P3 : Name
  P4 : Name
  P5 : Name
  P6-no-element : Name
  P6-transport : Name
  P7 : Name
  P8 : Name
  P9 : Name
  P10 : Name
  P11 : Name
  P12 : Name
  P12-cut-47 : Name
  P12-cut-32 : Name
  P12-cut-31 : Name
  P12-cut-8 : Name
  P12-cut-7 : Name
  READ-all : Name
  failed-RESERVE-frees-nothing : Name
  sense-of-another-host-stays : Name
  reset-is-told-before-import : Name
  number-1 : Name
  number-2 : Name
  number-3 : Name
  number-4 : Name
  number-5 : Name
  number-6 : Name
  number-7 : Name
  number-8-import : Name
  number-8-export : Name
  number-9 : Name
  unknown-first-byte : Name
  attention-told-once : Name
  unit-of-another-host : Name
  REQUEST-SENSE-clears : Name
  PREVENT : Name
  MOVE-transport-held : Name
  EXCHANGE-transport-held : Name
  EXCHANGE-source-held : Name
  EXCHANGE-first-held : Name
  EXCHANGE-second-held : Name
  EXCHANGE-held-by-itself : Name
  RESERVE-supersedes : Name
  RESERVE-names-twice : Name
  RESERVE-unit : Name
  RELEASE-unit : Name
  RELEASE-id : Name
  export-takes-away : Name
  reset-frees-all : Name
  MODE-SENSE-all : Name
  MODE-SENSE-cut-5 : Name
  MODE-SENSE-page-control : Name
  MODE-SENSE-other-page : Name
  MODE-SENSE-unit-of-another-host : Name
  MODE-SENSE-too-long : Name
  MODE-SENSE-longest : Name
  shelf-to-drive-to-mail-slot : Name
  shelf-to-drive-to-mail-slot-listed : Name
  none-is-kept : Name
  drive-to-shelf-shows-the-old-shelf : Name
  EXCHANGE-leaving-the-drive : Name
  EXCHANGE-shelf-to-drive-and-back : Name
  EXCHANGE-of-drive-and-mail-slot : Name
  source-names-the-drive : Name
  source-names-the-mail-slot : Name
  source-names-the-transport : Name
  shelf-to-shelf : Name
  one-shelf-too-few : Name
  one-shelf-too-many : Name
  shelves-in-the-high-byte : Name
  MOVE-wrong-generation : Name
  MOVE-wrong-generation-drive-full : Name
  MOVE-wrong-generation-to-a-shelf : Name
  MOVE-of-generation-8 : Name
  EXCHANGE-wrong-generation-to-the-first : Name
  EXCHANGE-wrong-generation-to-the-second : Name
  EXCHANGE-wrong-generation-back-to-the-source : Name
  import-of-any-generation : Name
  ill-fitting-volume-in-the-drive : Name
  generation-0 : Name
  generation-9 : Name
  one-generation-too-few : Name
  one-mask-too-many : Name
  MOVE-no-arm-held : Name
  MOVE-first-arm-held : Name
  MOVE-two-arms-held : Name
  MOVE-first-arm-its-own : Name
  MOVE-its-own-arm-between : Name
  MOVE-all-arms-held : Name
  MOVE-all-arms-held-wrong-address : Name
  MOVE-all-arms-held-source-empty : Name
  MOVE-named-arm-held : Name
  MOVE-named-arm-free : Name
  EXCHANGE-two-arms-held : Name
  EXCHANGE-all-arms-held : Name
  EXCHANGE-named-arm-held : Name
  TAG-begins : Name
  TAG-of-39-bytes : Name
  TAG-reserved-byte : Name
  TAG-action-0 : Name
  TAG-action-4 : Name
  TAG-type-5 : Name
  TAG-other-length : Name
  TAG-element-held : Name
  TAG-its-own-element : Name
  REQUEST-element-held : Name
  TAG-element-held-action-0 : Name
  REQUEST-both : Name
  REQUEST-cut : Name
  REQUEST-goes-on : Name
  REQUEST-all-told : Name
  REQUEST-one-at-most : Name
  REQUEST-header-alone : Name
  REQUEST-without-a-search : Name
  REQUEST-from-a-start : Name
  REQUEST-of-drives : Name
  REQUEST-of-the-searchs-type : Name
  REQUEST-of-any : Name
  REQUEST-single-characters : Name
  REQUEST-no-more-characters : Name
  REQUEST-whole-label : Name
  REQUEST-zeros-are-no-blanks : Name
  REQUEST-range : Name
  REQUEST-range-both-ends : Name
  REQUEST-empty-range : Name
  REQUEST-range-ignored : Name
  search-of-40-bytes : Name
  search-with-action-2 : Name
  search-with-action-0 : Name
  search-with-type-5 : Name
  search-behind-10000h : Name
  search-at-10000h : Name
  reset-clears-the-search : Name
  REQUEST-number-5 : Name
  REQUEST-byte-9 : Name

pub record Case : Type 0 where
  pub name : Name
  pub on : Tables
  pub call : Call
  pub gives : Outcome

-- ---- P1 to P11: "Host 1, transport 0."

unfoldable pub moves : List Case
moves =
    -- "P1 MOVE 1000h to 0100h: GOOD, drive has volume 1, source 1000h."
    record {
      name = P1;
      on = small;
      call = asks (move_block 0x1000 0x0100);
      gives = ends 0x00 0 (quiet_showing 3) (elements_of empty (element 1 0x1000 0 0 0) empty empty (loaded 2) empty) [];
    }
    -- "P2 MOVE 1001h to 0100h: 5/3B/0E. P3 1000h to 1002h: 5/3B/0D. P4 1000h to 1000h: 5/3B/0D. P5 1001h to 1001h: 5/3B/0E."
    ∷ record { name = P2; on = small; call = asks (move_block 0x1001 0x0100); gives = checks 5 0x3B 0x0E }
    ∷ record { name = P3; on = small; call = asks (move_block 0x1000 0x1002); gives = checks 5 0x3B 0x0D }
    ∷ record { name = P4; on = small; call = asks (move_block 0x1000 0x1000); gives = checks 5 0x3B 0x0D }
    ∷ record { name = P5; on = small; call = asks (move_block 0x1001 0x1001); gives = checks 5 0x3B 0x0E }
    -- "P6 1000h to 1004h or 0001h: 5/21/01."
    ∷ record { name = P6-no-element; on = small; call = asks (move_block 0x1000 0x1004); gives = checks 5 0x21 0x01 }
    ∷ record { name = P6-transport; on = small; call = asks (move_block 0x1000 0x0001); gives = checks 5 0x21 0x01 }
    ∷ []

unfoldable pub exchanges : List Case
exchanges =
    -- "P7 EXCHANGE 1000h, 1002h, 1000h: swapped; sources 1002h at 1000h, 1000h at 1002h."
    record {
      name = P7;
      on = small;
      call = asks (exchange_block 0x1000 0x1002 0x1000);
      gives = ends 0x00 0 quiet_head (elements_of empty empty (element 2 0x1002 0 0 0) empty (element 1 0x1000 0 0 0) empty) [];
    }
    -- "P8 EXCHANGE 1000h, 1000h, 1001h: 5/21/01. P9 1000h, 1002h, 1002h: 5/3B/0D. P10 1000h, 1001h, 1003h: 5/3B/0E."
    ∷ record { name = P8; on = small; call = asks (exchange_block 0x1000 0x1000 0x1001); gives = checks 5 0x21 0x01 }
    ∷ record { name = P9; on = small; call = asks (exchange_block 0x1000 0x1002 0x1002); gives = checks 5 0x3B 0x0D }
    ∷ record { name = P10; on = small; call = asks (exchange_block 0x1000 0x1001 0x1003); gives = checks 5 0x3B 0x0E }
    -- "P11 host 2 holds 1002h, MOVE 1000h to 1002h: 18h."
    ∷ (let elements = elements_of empty empty (loaded 1) empty (element 2 0 2 0 0) empty in
    record { name = P11; on = library quiet_head elements; call = asks (move_block 0x1000 0x1002); gives = ends 0x18 0 quiet_head elements [] })
    ∷ []

-- ---- P12 and its cuts

-- "`10 00 00 02 00 00 00 28 02 00 00 10 00 00 00 20 10 00 09`, thirteen 00, `10 01 08`, thirteen 00"
unfoldable pub whole12 : List ℕ
whole12 =
    (0x10 ∷ 0x00 ∷ 0x00 ∷ 0x02 ∷ 0x00 ∷ 0x00 ∷ 0x00 ∷ 0x28 ∷ 0x02 ∷ 0x00 ∷ 0x00 ∷ 0x10 ∷ 0x00 ∷ 0x00 ∷ 0x00 ∷ 0x20 ∷ 0x10 ∷ 0x00 ∷ 0x09 ∷ [])
    ++ replicate 13 0x00 ++ (0x10 ∷ 0x01 ∷ 0x08 ∷ []) ++ replicate 13 0x00

-- "READ type 2, start 0, two elements, no tags" with an allocation, into 50 bytes: so many of the whole answer's bytes are returned, and
-- the other bytes stay
unfoldable pub read12 : Name → ℕ → ℕ → ℕ → Case
read12 name allocation count kept =
    record {
      name = name;
      on = small;
      call = sends 1 (read_block 2 2 allocation) [] (lent_buffer 50);
      gives = ends 0x00 count quiet_head small_elements (take count whole12 ++ lent_buffer kept);
    }

-- "allocation 48, whole .. Allocation 47 or 32 returns 32 bytes; 31 or 8 returns 8; 7 returns 7."
unfoldable pub cuts : List Case
cuts =
    read12 P12 48 48 2
    ∷ read12 P12-cut-47 47 32 18
    ∷ read12 P12-cut-32 32 32 18
    ∷ read12 P12-cut-31 31 8 42
    ∷ read12 P12-cut-8 8 8 42
    ∷ read12 P12-cut-7 7 7 43
    ∷ []

-- a page header with tags: type, and the byte count of its descriptors of 34h bytes
unfoldable pub tagged : ℕ → ℕ → List ℕ
tagged kind bytes = kind ∷ 0x80 ∷ 0x00 ∷ 0x34 ∷ 0x00 ∷ 0x00 ∷ 0x00 ∷ bytes ∷ []

-- a descriptor with tags and no source: address, flags, the byte that its label repeats
unfoldable pub labelled : ℕ → ℕ → ℕ → List ℕ
labelled address flags letter = (high address ∷ low address ∷ flags ∷ []) ++ replicate 9 0x00 ++ replicate 36 letter ++ replicate 4 0x00

-- "READ all, tags, FFFFh elements: 7 elements, count 18Ch, 404 bytes."
unfoldable pub whole_all : List ℕ
whole_all =
    (0x00 ∷ 0x01 ∷ 0x00 ∷ 0x07 ∷ 0x00 ∷ 0x00 ∷ 0x01 ∷ 0x8C ∷ [])
    ++ tagged 1 0x34 ++ labelled 0x0001 0x00 0x20
    ++ tagged 3 0x34 ++ labelled 0x0010 0x38 0x20
    ++ tagged 4 0x34 ++ labelled 0x0100 0x08 0x20
    ++ tagged 2 0xD0 ++ labelled 0x1000 0x09 0x41 ++ labelled 0x1001 0x08 0x20 ++ labelled 0x1002 0x09 0x42 ++ labelled 0x1003 0x08 0x20

unfoldable pub read_all : List Case
read_all =
    record {
      name = READ-all;
      on = small;
      call = sends 1 (read_block 0x10 0xFFFF 1000) [] (lent_buffer 405);
      gives = ends 0x00 404 quiet_head small_elements (whole_all ++ lent_buffer 1);
    }
    ∷ []

-- ---- "Errors we have shipped": counts cut to the allocation (P12's cuts) and a swap that writes before reading (P7) stand above

-- "A failed RESERVE that had already freed the old id."
unfoldable pub failed_reserve : Case
failed_reserve =
    let elements = elements_of empty empty (element 1 0 1 5 0) empty (element 2 0 2 0 0) empty in
    record {
      name = failed-RESERVE-frees-nothing;
      on = library quiet_head elements;
      call = sends 1 (reserve_block 5 12) (naming 1 0x1001 ++ naming 1 0x1002) [];
      gives = ends 0x18 0 quiet_head elements [];
    }

-- "A sense record shared by all hosts."
unfoldable pub own_sense : Case
own_sense =
    record {
      name = sense-of-another-host-stays;
      on = library (head_of 0 0 (senses 5 0x24 0x00) quiet quiet) small_elements;
      call = sends 2 (move_block 0x1001 0x0100) [] [];
      gives = ends 0x02 0 (head_of 0 0 (senses 5 0x24 0x00) (senses 5 0x3B 0x0E) quiet) small_elements [];
    }

-- "Import setting attention over 29h/00h."
unfoldable pub import_after_reset : Case
import_after_reset =
    record {
      name = reset-is-told-before-import;
      on = library (head_of 0 0 (awaits 0x29 0x00) quiet quiet) small_elements;
      call = Import 0x0010 3;
      gives =
          ends 0x00 0 (head_of 0 0 (awaits 0x29 0x00) (awaits 0x28 0x01) (awaits 0x28 0x01))
          (elements_of (element 3 0 0 0 1) empty (loaded 1) empty (loaded 2) empty) [];
    }

unfoldable pub shipped : List Case
shipped = failed_reserve ∷ own_sense ∷ import_after_reset ∷ []

-- ---- the house numbers

-- volume 2 twice
unfoldable pub twice : Tables
twice = library quiet_head (elements_of empty empty (loaded 2) empty (loaded 2) empty)

-- a volume in the import/export element, put there by a person
unfoldable pub laden : Tables
laden = library quiet_head (elements_of (element 3 0 0 0 1) empty (loaded 1) empty (loaded 2) empty)

-- hosts 3 and 8 prevent removal
unfoldable pub locked : Tables
locked = library (head_of 0 0x84 quiet quiet quiet) small_elements

unfoldable pub numbers : List Case
numbers =
    record { name = number-1; on = twice; call = sends 0 [] [] (lent_buffer 1); gives = refuses 1 twice (lent_buffer 1) }
    ∷ record { name = number-2; on = small; call = sends 257 [] [] []; gives = refuses 2 small [] }
    ∷ record { name = number-3; on = small; call = asks (0xA5 ∷ []); gives = refuses 3 small [] }
    ∷ record { name = number-4; on = small; call = sends 1 (move_block 0x1000 0x0100) (0 ∷ []) []; gives = refuses 4 small [] }
    ∷ record { name = number-5; on = small; call = sends 1 (read_block 2 2 47) [] (lent_buffer 31); gives = refuses 5 small (lent_buffer 31) }
    ∷ []

unfoldable pub event_numbers : List Case
event_numbers =
    record { name = number-6; on = small; call = Import 0x1001 3; gives = refuses 6 small [] }
    ∷ record {
      name = number-7;
      on = locked;
      call = Export 0x0010;
      gives =
          record { number = 7; status = 0; count = 0; preventers = 2; lowest = 3; tables = locked; buffer = [] };
    }
    ∷ record { name = number-8-import; on = laden; call = Import 0x0010 3; gives = refuses 8 laden [] }
    ∷ record { name = number-8-export; on = small; call = Export 0x0010; gives = refuses 8 small [] }
    ∷ record { name = number-9; on = small; call = Import 0x0010 2; gives = refuses 9 small [] }
    ∷ []

-- ---- the steps and the other commands, one row each

unfoldable pub step_cases : List Case
step_cases =
    record {
      name = unknown-first-byte;
      on = library (head_of 0 0 (awaits 0x28 0x01) quiet quiet) small_elements;
      call = asks (0x12 ∷ 0 ∷ 0 ∷ 0 ∷ 0 ∷ 0 ∷ []);
      gives = ends 0x02 0 (head_of 0 0 (record { key = 5; asc = 0x20; ascq = 0x00; attention = 0x28; attentionq = 0x01 }) quiet quiet) small_elements [];
    }
    ∷ record {
      name = attention-told-once;
      on = library (head_of 2 0 (awaits 0x28 0x01) quiet quiet) small_elements;
      call = asks (move_block 0x1000 0x0100);
      gives = ends 0x02 0 (head_of 2 0 (senses 6 0x28 0x01) quiet quiet) small_elements [];
    }
    ∷ record {
      name = unit-of-another-host;
      on = library (head_of 2 0 (senses 5 0x24 0x00) quiet quiet) small_elements;
      call = asks (0x00 ∷ 0 ∷ 0 ∷ 0 ∷ 0 ∷ 0xFF ∷ []);
      gives = ends 0x18 0 (head_of 2 0 quiet quiet quiet) small_elements [];
    }
    ∷ record {
      name = REQUEST-SENSE-clears;
      on = library (head_of 2 0 (record { key = 5; asc = 0x3B; ascq = 0x0D; attention = 0x29; attentionq = 0x00 }) quiet quiet) small_elements;
      call = sends 1 (0x03 ∷ 0 ∷ 0 ∷ 0 ∷ 14 ∷ 0 ∷ []) [] (lent_buffer 15);
      gives =
          ends 0x00 14 (head_of 2 0 (awaits 0x29 0x00) quiet quiet) small_elements
          (0x70 ∷ 0 ∷ 5 ∷ 0 ∷ 0 ∷ 0 ∷ 0 ∷ 0x0A ∷ 0 ∷ 0 ∷ 0 ∷ 0 ∷ 0x3B ∷ 0x0D ∷ 0xEE ∷ []);
    }
    ∷ []

-- step 6: "An element touched (named by MOVE or EXCHANGE, or the transport used) held by another host: 18h."

-- the small library with a holder for its transport, and for 1000h, 1001h and 1002h
unfoldable pub held_by : ℕ → ℕ → ℕ → ℕ → List ℕ
held_by arm a b c =
    element 0 0 arm 0 0 ++ empty ++ empty ++ element 1 0 a 0 0 ++ element 0 0 b 0 0 ++ element 2 0 c 0 0 ++ empty

-- refused with 18h, which leaves all but host 1's sense
unfoldable pub withheld : Name → List ℕ → List ℕ → Case
withheld name elements block =
    record {
      name = name;
      on = library (head_of 0 0 (senses 5 0x24 0x00) quiet quiet) elements;
      call = asks block;
      gives = ends 0x18 0 quiet_head elements [];
    }

unfoldable pub touch_cases : List Case
touch_cases =
    withheld MOVE-transport-held (held_by 2 0 0 0) (move_block 0x1000 0x0100)
    ∷ withheld EXCHANGE-transport-held (held_by 2 0 0 0) (exchange_block 0x1000 0x1002 0x1001)
    ∷ withheld EXCHANGE-source-held (held_by 0 2 0 0) (exchange_block 0x1000 0x1002 0x1001)
    ∷ withheld EXCHANGE-first-held (held_by 0 0 0 2) (exchange_block 0x1000 0x1002 0x1001)
    ∷ withheld EXCHANGE-second-held (held_by 0 0 2 0) (exchange_block 0x1000 0x1002 0x1001)
    -- a host's own holds hinder nothing, and stay
    ∷ record {
      name = EXCHANGE-held-by-itself;
      on = library quiet_head (held_by 1 1 1 1);
      call = asks (exchange_block 0x1000 0x1002 0x1001);
      gives =
          ends 0x00 0 quiet_head
          (element 0 0 1 0 0 ++ empty ++ empty ++ element 0 0 1 0 0 ++ element 2 0x1002 1 0 0 ++ element 1 0x1000 1 0 0 ++ empty) [];
    }
    ∷ []

unfoldable pub hold_cases : List Case
hold_cases =
    record {
      name = PREVENT;
      on = locked;
      call = asks (0x1E ∷ 0 ∷ 0 ∷ 0 ∷ 1 ∷ 0 ∷ []);
      gives = ends 0x00 0 (head_of 0 0x85 quiet quiet quiet) small_elements [];
    }
    ∷ record {
      name = RESERVE-supersedes;
      on = library quiet_head (elements_of empty empty (element 1 0 1 5 0) empty (element 2 0 1 6 0) empty);
      call = sends 1 (reserve_block 5 6) (naming 2 0x0100) [];
      gives = ends 0x00 0 quiet_head (elements_of empty (element 0 0 1 5 0) (element 1 0 1 5 0) empty (element 2 0 1 6 0) empty) [];
    }
    ∷ record {
      name = RESERVE-names-twice;
      on = small;
      call = sends 1 (reserve_block 5 12) (naming 0 0x1002 ++ naming 1 0x1003) [];
      gives = checks 5 0x21 0x01;
    }
    ∷ record {
      name = RESERVE-unit;
      on = small;
      call = asks (0x16 ∷ 0 ∷ 9 ∷ 0 ∷ 0 ∷ 0 ∷ []);
      gives = ends 0x00 0 (head_of 1 0 quiet quiet quiet) small_elements [];
    }
    ∷ record {
      name = RELEASE-unit;
      on = library (head_of 1 0 quiet quiet quiet) (elements_of empty empty (element 1 0 1 5 0) (element 0 0 1 6 0) (loaded 2) empty);
      call = asks (0x17 ∷ 0 ∷ 9 ∷ 0 ∷ 0 ∷ 0 ∷ []);
      gives = ends 0x00 0 quiet_head small_elements [];
    }
    ∷ record {
      name = RELEASE-id;
      on = library (head_of 1 0 quiet quiet quiet) (elements_of empty empty (element 1 0 1 5 0) (element 0 0 1 6 0) (loaded 2) empty);
      call = asks (0x17 ∷ 1 ∷ 6 ∷ 0 ∷ 0 ∷ 0 ∷ []);
      gives = ends 0x00 0 (head_of 1 0 quiet quiet quiet) (elements_of empty empty (element 1 0 1 5 0) empty (loaded 2) empty) [];
    }
    ∷ []

unfoldable pub event_cases : List Case
event_cases =
    record {
      name = export-takes-away;
      on = library (head_of 0 0 quiet (awaits 0x28 0x01) quiet) (elements_of (element 3 0x1001 2 7 0) empty (loaded 1) empty (loaded 2) empty);
      call = Export 0x0010;
      gives =
          ends 0x00 0 (head_of 0 0 (awaits 0x28 0x01) (awaits 0x28 0x01) (awaits 0x28 0x01))
          (elements_of (element 0 0 2 7 0) empty (loaded 1) empty (loaded 2) empty) [];
    }
    ∷ record {
      name = reset-frees-all;
      on = library (head_of 2 0x84 (senses 5 0x24 0x00) (awaits 0x28 0x01) quiet) (elements_of (element 3 0 2 7 1) empty (element 1 0x1003 2 0 0) empty (loaded 2) empty);
      call = Reset;
      gives =
          ends 0x00 0 (head_of 0 0 (awaits 0x29 0x00) (awaits 0x29 0x00) (awaits 0x29 0x00))
          (elements_of (element 3 0 0 0 1) empty (element 1 0x1003 0 0 0) empty (loaded 2) empty) [];
    }
    ∷ []

-- ---- MODE SENSE: 001, tables 32 to 35, on the small library

-- first address and number of each type
unfoldable pub address_page : List ℕ
address_page =
    0x1D ∷ 0x12 ∷ 0x00 ∷ 0x01 ∷ 0x00 ∷ 0x01 ∷ 0x10 ∷ 0x00 ∷ 0x00 ∷ 0x04 ∷ 0x00 ∷ 0x10 ∷ 0x00 ∷ 0x01 ∷ 0x01 ∷ 0x00 ∷ 0x00 ∷ 0x01 ∷ 0x00 ∷ 0x00 ∷ []

unfoldable pub geometry_page : List ℕ
geometry_page = 0x1E ∷ 0x02 ∷ 0x00 ∷ 0x00 ∷ []

unfoldable pub capability_page : List ℕ
capability_page =
    0x1F ∷ 0x12 ∷ 0x0E ∷ 0x00 ∷ 0x00 ∷ 0x0E ∷ 0x0E ∷ 0x0E ∷ 0x00 ∷ 0x00 ∷ 0x00 ∷ 0x00 ∷ 0x00 ∷ 0x0E ∷ 0x0E ∷ 0x0E ∷ 0x00 ∷ 0x00 ∷ 0x00 ∷ 0x00 ∷ []

-- the header, and the three by rising code
unfoldable pub whole_modes : List ℕ
whole_modes = 0x2F ∷ 0x00 ∷ 0x00 ∷ 0x00 ∷ address_page ++ geometry_page ++ capability_page

-- with DBD, which is ignored: byte 2 (page control and page code), allocation
unfoldable pub mode_block : ℕ → ℕ → List ℕ
mode_block page allocation = 0x1A ∷ 0x08 ∷ page ∷ 0x00 ∷ allocation ∷ 0x00 ∷ []

unfoldable pub mode_cases : List Case
mode_cases =
    record {
      name = MODE-SENSE-all;
      on = small;
      call = sends 1 (mode_block 0x3F 255) [] (lent_buffer 50);
      gives = ends 0x00 48 quiet_head small_elements (whole_modes ++ lent_buffer 2);
    }
    ∷ record {
      name = MODE-SENSE-cut-5;
      on = small;
      call = sends 1 (mode_block 0x3F 5) [] (lent_buffer 6);
      gives = ends 0x00 5 quiet_head small_elements (0x2F ∷ 0x00 ∷ 0x00 ∷ 0x00 ∷ 0x1D ∷ 0xEE ∷ []);
    }
    ∷ record { name = MODE-SENSE-page-control; on = small; call = asks (mode_block 0x7F 0); gives = checks 5 0x24 0x00 }
    ∷ record { name = MODE-SENSE-other-page; on = small; call = asks (mode_block 0x1C 0); gives = checks 5 0x24 0x00 }
    ∷ record {
      name = MODE-SENSE-unit-of-another-host;
      on = library (head_of 2 0 quiet quiet quiet) small_elements;
      call = asks (mode_block 0x7F 0);
      gives = ends 0x18 0 (head_of 2 0 quiet quiet quiet) small_elements [];
    }
    ∷ []

-- 106 transports, and nothing else but a shelf and a drive
unfoldable pub arms_head : Host → List ℕ
arms_head one =
    0x00 ∷ 0x01 ∷ 0 ∷ 106 ∷ 0x10 ∷ 0x00 ∷ 0 ∷ 1 ∷ 0 ∷ 0 ∷ 0 ∷ 0 ∷ 0x01 ∷ 0x00 ∷ 0 ∷ 1 ∷ 0 ∷ 0 ∷ host_bytes one ++ replicate 35 0 ++ (0 ∷ 1 ∷ [])

unfoldable pub arms_elements : List ℕ
arms_elements = replicate 864 0

-- 3Fh has 258 bytes before cutting, 1Eh alone 218
unfoldable pub long_cases : List Case
long_cases =
    record {
      name = MODE-SENSE-too-long;
      on = library (arms_head quiet) arms_elements;
      call = asks (mode_block 0x3F 0);
      gives = ends 0x02 0 (arms_head (senses 5 0x24 0x00)) arms_elements [];
    }
    ∷ record {
      name = MODE-SENSE-longest;
      on = library (arms_head quiet) arms_elements;
      call = sends 1 (mode_block 0x1E 8) [] (lent_buffer 9);
      gives = ends 0x00 8 (arms_head quiet) arms_elements (217 ∷ 0x00 ∷ 0x00 ∷ 0x00 ∷ 0x1E ∷ 212 ∷ 0x00 ∷ 0x00 ∷ 0xEE ∷ []);
    }
    ∷ []

-- ---- "the last storage element that held it"

-- carried out for host 1: the empty shelves and the elements before and after
unfoldable pub carries : Name → ℕ → List ℕ → List ℕ → ℕ → List ℕ → Case
carries name free before block left behind =
    record { name = name; on = library (quiet_showing free) before; call = asks block; gives = ends 0x00 0 (quiet_showing left) behind [] }

unfoldable pub shelf_moves : List Case
shelf_moves =
    -- "A reel went from shelf to drive to mail slot, and our listing named the drive as its source."
    carries shelf-to-drive-to-mail-slot 3
    (elements_of empty (element 1 0x1000 0 0 0) empty empty (loaded 2) empty)
    (move_block 0x0100 0x0010) 3
    (elements_of (element 1 0x1000 0 0 0) empty empty empty (loaded 2) empty)
    ∷ (let elements = elements_of (element 1 0x1000 0 0 0) empty empty empty (loaded 2) empty in
    record {
      name = shelf-to-drive-to-mail-slot-listed;
      on = library (quiet_showing 3) elements;
      call = sends 1 (read_block 3 1 32) [] (lent_buffer 33);
      gives =
          ends 0x00 32 (quiet_showing 3) elements
          ((0x00 ∷ 0x10 ∷ 0x00 ∷ 0x01 ∷ 0x00 ∷ 0x00 ∷ 0x00 ∷ 0x18 ∷ 0x03 ∷ 0x00 ∷ 0x00 ∷ 0x10 ∷ 0x00 ∷ 0x00 ∷ 0x00 ∷ 0x10 ∷ [])
          ++ (0x00 ∷ 0x10 ∷ 0x39 ∷ 0x00 ∷ 0x00 ∷ 0x00 ∷ 0x00 ∷ 0x00 ∷ 0x00 ∷ 0x80 ∷ 0x10 ∷ 0x00 ∷ 0x00 ∷ 0x00 ∷ 0x00 ∷ 0x00 ∷ 0xEE ∷ []));
    })
    -- "leaving any other, it keeps the source it had, none included"
    ∷ carries none-is-kept 2
    (elements_of (element 3 0 0 0 1) empty (loaded 1) empty (loaded 2) empty)
    (move_block 0x0010 0x0100) 2
    (elements_of empty (element 3 0 0 0 0) (loaded 1) empty (loaded 2) empty)
    -- "a move from the drive back to a shelf shows the old shelf"
    ∷ carries drive-to-shelf-shows-the-old-shelf 3
    (elements_of empty (element 1 0x1000 0 0 0) empty empty (loaded 2) empty)
    (move_block 0x0100 0x1003) 2
    (elements_of empty empty empty empty (loaded 2) (element 1 0x1000 0 0 0))
    ∷ []

-- "a volume leaving a storage element takes that address; leaving any other, it keeps the source it had": each of the two by itself
unfoldable pub shelf_exchanges : List Case
shelf_exchanges =
    -- the volume of shelf 1002h came from 1000h: it takes 1002h
    carries EXCHANGE-leaving-the-drive 3
    (elements_of empty (element 1 0x1003 0 0 0) empty empty (element 2 0x1000 0 0 0) empty)
    (exchange_block 0x0100 0x1002 0x1001) 2
    (elements_of empty empty empty (element 2 0x1002 0 0 0) (element 1 0x1003 0 0 0) empty)
    ∷ carries EXCHANGE-shelf-to-drive-and-back 3
    (elements_of empty (element 2 0x1002 0 0 0) (element 1 0x1003 0 0 0) empty empty empty)
    (exchange_block 0x1000 0x0100 0x1000) 3
    (elements_of empty (element 1 0x1000 0 0 0) (element 2 0x1002 0 0 0) empty empty empty)
    -- each source is read before the other is written
    ∷ carries EXCHANGE-of-drive-and-mail-slot 4
    (elements_of (element 2 0x1002 0 0 0) (element 1 0x1000 0 0 0) empty empty empty empty)
    (exchange_block 0x0100 0x0010 0x0100) 4
    (elements_of (element 1 0x1000 0 0 0) (element 2 0x1002 0 0 0) empty empty empty empty)
    ∷ []

-- "Sound tables now allow only a storage address or 0."
unfoldable pub unsound_source : Name → ℕ → Case
unsound_source name source =
    let t = library quiet_head (elements_of empty empty (element 1 source 0 0 0) empty (loaded 2) empty) in
    record { name = name; on = t; call = asks (0x00 ∷ 0 ∷ 0 ∷ 0 ∷ 0 ∷ 0 ∷ []); gives = refuses 1 t [] }

unfoldable pub source_cases : List Case
source_cases =
    unsound_source source-names-the-drive 0x0100
    ∷ unsound_source source-names-the-mail-slot 0x0010
    ∷ unsound_source source-names-the-transport 0x0001
    ∷ []

-- ---- "how many storage elements are empty"

-- "Sound tables have it equal to the true count, else number 1."
unfoldable pub unsound_panel : Name → ℕ → Case
unsound_panel name free =
    let t = library (quiet_showing free) small_elements in
    record { name = name; on = t; call = asks (0x00 ∷ 0 ∷ 0 ∷ 0 ∷ 0 ∷ 0 ∷ []); gives = refuses 1 t [] }

unfoldable pub panel_cases : List Case
panel_cases =
    carries shelf-to-shelf 2
    (elements_of empty empty (loaded 1) empty (loaded 2) empty)
    (move_block 0x1000 0x1003) 2
    (elements_of empty empty empty empty (loaded 2) (element 1 0x1000 0 0 0))
    ∷ unsound_panel one-shelf-too-few 1
    ∷ unsound_panel one-shelf-too-many 3
    ∷ unsound_panel shelves-in-the-high-byte 0x0102
    ∷ []

-- ---- "Wrong cartridge, wrong drive": volumes of these generations, a drive that takes those of a mask

-- refused with 5/30/12
unfoldable pub wrong_drive : Name → List ℕ → ℕ → List ℕ → List ℕ → Case
wrong_drive name generations free elements block =
    record {
      name = name;
      on = library_of generations (0x01 ∷ []) (quiet_showing free) elements;
      call = asks block;
      gives = ends_on 0x02 (library_of generations (0x01 ∷ []) (head_showing free 0 0 (senses 5 0x30 0x12) quiet quiet) elements);
    }

unfoldable pub fit_moves : List Case
fit_moves =
    wrong_drive MOVE-wrong-generation (2 ∷ 1 ∷ 1 ∷ []) 2 small_elements (move_block 0x1000 0x0100)
    -- "The new refusal stands after step 8"
    ∷ (let elements = elements_of empty (loaded 2) (loaded 1) empty empty empty in
    let on = library_of (2 ∷ 1 ∷ 1 ∷ []) (0x01 ∷ []) in
    record {
      name = MOVE-wrong-generation-drive-full;
      on = on (quiet_showing 3) elements;
      call = asks (move_block 0x1000 0x0100);
      gives = ends_on 0x02 (on (head_showing 3 0 0 (senses 5 0x3B 0x0D) quiet quiet) elements);
    })
    -- "for a move .. that ends in a drive"
    ∷ record {
      name = MOVE-wrong-generation-to-a-shelf;
      on = library_of (2 ∷ 1 ∷ 1 ∷ []) (0x00 ∷ []) quiet_head small_elements;
      call = asks (move_block 0x1000 0x1003);
      gives = ends_on 0x00 (library_of (2 ∷ 1 ∷ 1 ∷ []) (0x00 ∷ []) quiet_head (elements_of empty empty empty empty (loaded 2) (element 1 0x1000 0 0 0)));
    }
    -- "a mask (bit g-1)"
    ∷ record {
      name = MOVE-of-generation-8;
      on = library_of (8 ∷ 1 ∷ 1 ∷ []) (0x80 ∷ []) quiet_head small_elements;
      call = asks (move_block 0x1000 0x0100);
      gives = ends_on 0x00 (library_of (8 ∷ 1 ∷ 1 ∷ []) (0x80 ∷ []) (quiet_showing 3) (elements_of empty (element 1 0x1000 0 0 0) empty empty (loaded 2) empty));
    }
    ∷ []

unfoldable pub fit_exchanges : List Case
fit_exchanges =
    -- "either leg of an exchange that ends in a drive"
    wrong_drive EXCHANGE-wrong-generation-to-the-first (2 ∷ 1 ∷ 1 ∷ []) 3 (elements_of empty (loaded 2) (loaded 1) empty empty empty) (exchange_block 0x1000 0x0100 0x1001)
    ∷ wrong_drive EXCHANGE-wrong-generation-to-the-second (1 ∷ 2 ∷ 1 ∷ []) 2 small_elements (exchange_block 0x1000 0x1002 0x0100)
    ∷ wrong_drive EXCHANGE-wrong-generation-back-to-the-source (1 ∷ 2 ∷ 1 ∷ []) 3 (elements_of empty (loaded 1) empty empty (loaded 2) empty) (exchange_block 0x0100 0x1002 0x0100)
    ∷ []

-- "Bad lengths or entries are number 1."; "A table that already has an ill-fitting volume in a drive is not sound."
unfoldable pub unsound_fit : Name → List ℕ → List ℕ → ℕ → List ℕ → Case
unsound_fit name generations masks free elements =
    let t = library_of generations masks (quiet_showing free) elements in
    record { name = name; on = t; call = asks (0x00 ∷ 0 ∷ 0 ∷ 0 ∷ 0 ∷ 0 ∷ []); gives = refuses 1 t [] }

unfoldable pub fit_cases : List Case
fit_cases =
    -- "Import isn't affected."
    record {
      name = import-of-any-generation;
      on = library_of (1 ∷ 1 ∷ 8 ∷ []) (0x01 ∷ []) quiet_head small_elements;
      call = Import 0x0010 3;
      gives =
          ends_on 0x00
          (library_of (1 ∷ 1 ∷ 8 ∷ []) (0x01 ∷ []) (head_of 0 0 (awaits 0x28 0x01) (awaits 0x28 0x01) (awaits 0x28 0x01))
          (elements_of (element 3 0 0 0 1) empty (loaded 1) empty (loaded 2) empty));
    }
    ∷ unsound_fit ill-fitting-volume-in-the-drive (2 ∷ 1 ∷ 1 ∷ []) (0x01 ∷ []) 3 (elements_of empty (loaded 1) empty empty (loaded 2) empty)
    ∷ unsound_fit generation-0 (1 ∷ 0 ∷ 1 ∷ []) (0x01 ∷ []) 2 small_elements
    ∷ unsound_fit generation-9 (1 ∷ 1 ∷ 9 ∷ []) (0x01 ∷ []) 2 small_elements
    ∷ unsound_fit one-generation-too-few (1 ∷ 1 ∷ []) (0x01 ∷ []) 2 small_elements
    ∷ unsound_fit one-mask-too-many (1 ∷ 1 ∷ 1 ∷ []) (0x01 ∷ 0x01 ∷ []) 2 small_elements
    ∷ []

-- ---- "Any free arm": the small library with three transports, 0001h to 0003h

-- so many shelves are empty; host 1
unfoldable pub three_arms : ℕ → Host → List ℕ
three_arms free one = 0x00 ∷ 0x01 ∷ 0 ∷ 3 ∷ drop 4 (head_showing free 0 0 one quiet quiet)

-- the holders of the three; the elements behind them are those behind the one
unfoldable pub arms_of : ℕ → ℕ → ℕ → List ℕ → List ℕ
arms_of a b c elements = element 0 0 a 0 0 ++ element 0 0 b 0 0 ++ element 0 0 c 0 0 ++ drop element_size elements

-- carried out for host 1: the holders, the block, the empty shelves and the elements afterwards
unfoldable pub arm_carries : Name → ℕ → ℕ → ℕ → List ℕ → ℕ → List ℕ → Case
arm_carries name a b c block left behind =
    record {
      name = name;
      on = library (three_arms 2 quiet) (arms_of a b c small_elements);
      call = asks block;
      gives = ends 0x00 0 (three_arms left quiet) (arms_of a b c behind) [];
    }

-- refused: the status, and host 1 afterwards
unfoldable pub arm_stalls : Name → ℕ → ℕ → ℕ → List ℕ → ℕ → Host → Case
arm_stalls name a b c block status one =
    record {
      name = name;
      on = library (three_arms 2 quiet) (arms_of a b c small_elements);
      call = asks block;
      gives = ends status 0 (three_arms 2 one) (arms_of a b c small_elements) [];
    }

unfoldable pub arm_moves : List Case
arm_moves =
    let drive = elements_of empty (element 1 0x1000 0 0 0) empty empty (loaded 2) empty in
    -- "Transport 0 now means the lowest-addressed transport not held by another host"
    arm_carries MOVE-no-arm-held 0 0 0 (move_block 0x1000 0x0100) 3 drive
    ∷ arm_carries MOVE-first-arm-held 2 0 0 (move_block 0x1000 0x0100) 3 drive
    ∷ arm_carries MOVE-two-arms-held 2 3 0 (move_block 0x1000 0x0100) 3 drive
    ∷ arm_carries MOVE-first-arm-its-own 1 0 0 (move_block 0x1000 0x0100) 3 drive
    ∷ arm_carries MOVE-its-own-arm-between 2 1 3 (move_block 0x1000 0x0100) 3 drive
    -- "if there is none, 18h at step 6": behind the addresses, before what stands there
    ∷ arm_stalls MOVE-all-arms-held 2 3 2 (move_block 0x1000 0x0100) 0x18 quiet
    ∷ arm_stalls MOVE-all-arms-held-wrong-address 2 3 2 (move_block 0x1000 0x1004) 0x02 (senses 5 0x21 0x01)
    ∷ arm_stalls MOVE-all-arms-held-source-empty 2 3 2 (move_block 0x1001 0x0100) 0x18 quiet
    -- "A transport named by its address is as before."
    ∷ arm_stalls MOVE-named-arm-held 2 0 0 (by_arm 0x0001 (move_block 0x1000 0x0100)) 0x18 quiet
    ∷ arm_carries MOVE-named-arm-free 2 0 0 (by_arm 0x0003 (move_block 0x1000 0x0100)) 3 drive
    ∷ []

-- "Every command that takes a transport address follows."
unfoldable pub arm_exchanges : List Case
arm_exchanges =
    arm_carries EXCHANGE-two-arms-held 2 3 0 (exchange_block 0x1000 0x1002 0x1000) 2
    (elements_of empty empty (element 2 0x1002 0 0 0) empty (element 1 0x1000 0 0 0) empty)
    ∷ arm_stalls EXCHANGE-all-arms-held 2 2 3 (exchange_block 0x1000 0x1002 0x1000) 0x18 quiet
    ∷ arm_stalls EXCHANGE-named-arm-held 0 2 0 (by_arm 0x0002 (exchange_block 0x1000 0x1002 0x1000)) 0x18 quiet
    ∷ []

-- ---- "Find by label": volume 1, FILM01, at 1000h and volume 2, FILM02, at 1002h

-- FILM* and others
unfoldable pub FILM-any : List ℕ
FILM-any = 0x46 ∷ 0x49 ∷ 0x4C ∷ 0x4D ∷ 0x2A ∷ []

-- a search for FILM* of all types under 5h, up to its next address
unfoldable pub films_from : ℕ → List ℕ
films_from next = search_of FILM-any 0 5 0 0 next

-- SEND VOLUME TAG of host 1, on a search that has come to 1001h: status, sense and search afterwards
unfoldable pub sends_tag : Name → List ℕ → List ℕ → ℕ → Host → List ℕ → Case
sends_tag name block list status one search =
    record {
      name = name;
      on = films (films_from 0x1001) quiet_head small_elements;
      call = sends 1 block list [];
      gives = ends_on status (films search (head_of 0 0 one quiet quiet) small_elements);
    }

unfoldable pub tag_cases : List Case
tag_cases =
    let list = tag_list FILM-any 3 4 in
    let old = films_from 0x1001 in
    sends_tag TAG-begins (tag_block 2 0x1002 1 40) list 0x00 quiet (search_of FILM-any 2 1 3 4 0x1002)
    -- "other than 40 is 5/1A/00"
    ∷ sends_tag TAG-of-39-bytes (tag_block 2 0x1002 1 39) (take 39 list) 0x02 (senses 5 0x1A 0x00) old
    ∷ sends_tag TAG-reserved-byte (tag_block 2 0x1002 1 40) (put list 36 (1 ∷ [])) 0x02 (senses 5 0x26 0x00) old
    -- "actions 1h and 5h (primary tags), others 5/24/00"
    ∷ sends_tag TAG-action-0 (tag_block 2 0x1002 0 40) list 0x02 (senses 5 0x24 0x00) old
    ∷ sends_tag TAG-action-4 (tag_block 2 0x1002 4 40) list 0x02 (senses 5 0x24 0x00) old
    ∷ sends_tag TAG-type-5 (tag_block 5 0x1002 1 40) list 0x02 (senses 5 0x24 0x00) old
    -- "Number 4 reads B6h's own list length"
    ∷ (let t = films old quiet_head small_elements in
    record { name = TAG-other-length; on = t; call = sends 1 (tag_block 2 0x1002 1 39) list []; gives = refuses 4 t [] })
    ∷ []

-- "18h if any other host holds unit or element, at step 3": an element that holder has
unfoldable pub held_shelf : ℕ → List ℕ
held_shelf holder = elements_of empty empty (loaded 1) (element 0 0 holder 0 0) (loaded 2) empty

unfoldable pub meets_holder : Name → ℕ → List ℕ → List ℕ → List ℕ → ℕ → List ℕ → Case
meets_holder name holder before block list status search =
    record {
      name = name;
      on = films before quiet_head (held_shelf holder);
      call = sends 1 block list [];
      gives = ends_on status (films search quiet_head (held_shelf holder));
    }

unfoldable pub holder_cases : List Case
holder_cases =
    meets_holder TAG-element-held 2 no_search (tag_block 0 0 5 40) (tag_list FILM-any 0 0) 0x18 no_search
    ∷ meets_holder TAG-its-own-element 1 no_search (tag_block 0 0 5 40) (tag_list FILM-any 0 0) 0x00 (films_from 0)
    ∷ meets_holder REQUEST-element-held 2 (films_from 0) (request_block 0 0 9 0) [] 0x18 (films_from 0)
    -- before step 4
    ∷ meets_holder TAG-element-held-action-0 2 no_search (tag_block 0 0 0 40) (tag_list FILM-any 0 0) 0x18 no_search
    ∷ []

-- the header: first address, how many, action, bytes of all pages
unfoldable pub found-header : ℕ → ℕ → ℕ → ℕ → List ℕ
found-header first many action bytes = high first ∷ low first ∷ 0 ∷ many ∷ action ∷ 0 ∷ 0 ∷ bytes ∷ []

-- a page of so many shelves without tags: its header, then 16 bytes for each
unfoldable pub shelf-page : ℕ → List ℕ
shelf-page many = 2 ∷ 0 ∷ 0 ∷ 16 ∷ 0 ∷ 0 ∷ 0 ∷ 16 * many ∷ []

unfoldable pub shelf-full : ℕ → List ℕ
shelf-full address = high address ∷ low address ∷ 0x09 ∷ 0 ∷ 0 ∷ 0 ∷ 0 ∷ 0 ∷ 0 ∷ 0 ∷ 0 ∷ 0 ∷ 0 ∷ 0 ∷ 0 ∷ 0 ∷ []

-- REQUEST VOLUME ELEMENT ADDRESS of host 1: the search, the block, the bytes returned and the search afterwards
unfoldable pub finds : Name → List ℕ → List ℕ → List ℕ → List ℕ → Case
finds name before block bytes behind =
    record {
      name = name;
      on = films before quiet_head small_elements;
      call = sends 1 block [] (lent_buffer 50);
      gives =
          record {
            number = 0;
            status = 0x00;
            count = length bytes;
            preventers = 0;
            lowest = 0;
            tables = films behind quiet_head small_elements;
            buffer = bytes ++ lent_buffer (50 - length bytes);
          };
    }

unfoldable pub find_cases : List Case
find_cases =
    let both : ℕ → List ℕ = λ action. found-header 0x1000 2 action 40 ++ shelf-page 2 ++ shelf-full 0x1000 ++ shelf-full 0x1002 in
    let first : ℕ → List ℕ = λ action. found-header 0x1000 1 action 24 ++ shelf-page 1 ++ shelf-full 0x1000 in
    let second : ℕ → List ℕ = λ action. found-header 0x1002 1 action 24 ++ shelf-page 1 ++ shelf-full 0x1002 in
    let of : List ℕ → ℕ → ℕ → ℕ → ℕ → List ℕ = λ name action least greatest next. search_of name 0 action least greatest next in
    finds REQUEST-both (films_from 0) (request_block 0 0 9 256) (both 5) (films_from 0x1003)
    -- "only descriptors returned whole count as told"
    ∷ finds REQUEST-cut (films_from 0) (request_block 0 0 9 47) (found-header 0x1000 2 5 40 ++ shelf-page 2 ++ shelf-full 0x1000) (films_from 0x1001)
    ∷ finds REQUEST-goes-on (films_from 0x1001) (request_block 0 0 9 256) (second 5) (films_from 0x1003)
    ∷ finds REQUEST-all-told (films_from 0x1003) (request_block 0 0 9 256) (found-header 0 0 5 0) (films_from 0x1003)
    ∷ finds REQUEST-one-at-most (films_from 0) (request_block 0 0 1 256) (first 5) (films_from 0x1001)
    ∷ finds REQUEST-header-alone (films_from 0) (request_block 0 0 9 7) (take 7 (both 5)) (films_from 0)
    ∷ finds REQUEST-without-a-search no_search (request_block 0 0 9 256) (found-header 0 0 0 0) no_search
    ∷ finds REQUEST-from-a-start (films_from 0) (request_block 0 0x1001 9 256) (second 5) (films_from 0x1003)
    ∷ finds REQUEST-of-drives (films_from 0) (request_block 4 0 9 256) (found-header 0 0 5 0) (films_from 0)
    ∷ finds REQUEST-of-the-searchs-type (search_of FILM-any 4 5 0 0 0) (request_block 0 0 9 256) (found-header 0 0 5 0) (search_of FILM-any 4 5 0 0 0)
    -- "only full elements match": the blank label would
    ∷ finds REQUEST-of-any (of (0x2A ∷ []) 5 0 0 0) (request_block 0 0 9 256) (both 5) (of (0x2A ∷ []) 5 0 0 0x1003)
    ∷ []

unfoldable pub match_cases : List Case
match_cases =
    let both : ℕ → List ℕ = λ action. found-header 0x1000 2 action 40 ++ shelf-page 2 ++ shelf-full 0x1000 ++ shelf-full 0x1002 in
    let first : ℕ → List ℕ = λ action. found-header 0x1000 1 action 24 ++ shelf-page 1 ++ shelf-full 0x1000 in
    let second : ℕ → List ℕ = λ action. found-header 0x1002 1 action 24 ++ shelf-page 1 ++ shelf-full 0x1002 in
    let of : List ℕ → ℕ → ℕ → ℕ → ℕ → List ℕ = λ name action least greatest next. search_of name 0 action least greatest next in
    let F??M0? : List ℕ = 0x46 ∷ 0x3F ∷ 0x3F ∷ 0x4D ∷ 0x30 ∷ 0x3F ∷ 0x2A ∷ [] in
    let FILM01 : List ℕ = 0x46 ∷ 0x49 ∷ 0x4C ∷ 0x4D ∷ 0x30 ∷ 0x31 ∷ [] in
    let blanks : List ℕ = filled_up 0x20 FILM01 in
    let block = request_block 0 0 9 256 in
    -- "'?' will match any single character"
    finds REQUEST-single-characters (of F??M0? 5 0 0 0) block (both 5) (of F??M0? 5 0 0 0x1003)
    -- "'*' will match any string of characters": also one of blanks, or of none that is significant
    ∷ finds REQUEST-no-more-characters (of (FILM01 ++ (0x2A ∷ [])) 5 0 0 0) block (first 5) (of (FILM01 ++ (0x2A ∷ [])) 5 0 0 0x1001)
    ∷ finds REQUEST-whole-label (of blanks 5 0 0 0) block (first 5) (of blanks 5 0 0 0x1001)
    ∷ finds REQUEST-zeros-are-no-blanks (of FILM01 5 0 0 0) block (found-header 0 0 5 0) (of FILM01 5 0 0 0)
    -- "range": under 1h sequence numbers are judged, both ends included; under 5h they are not
    ∷ finds REQUEST-range (of FILM-any 1 5 7 0) block (second 1) (of FILM-any 1 5 7 0x1003)
    ∷ finds REQUEST-range-both-ends (of FILM-any 1 1 7 0) block (both 1) (of FILM-any 1 1 7 0x1003)
    ∷ finds REQUEST-empty-range (of FILM-any 1 7 1 0) block (found-header 0 0 1 0) (of FILM-any 1 7 1 0)
    ∷ finds REQUEST-range-ignored (of FILM-any 5 7 1 0) block (both 5) (of FILM-any 5 7 1 0x1003)
    ∷ []

-- "only a wrong length, or a field's value that no search could leave, is number 1"
unfoldable pub unsound_search : Name → List ℕ → Case
unsound_search name search =
    let t = films search quiet_head small_elements in
    record { name = name; on = t; call = asks (0x00 ∷ 0 ∷ 0 ∷ 0 ∷ 0 ∷ 0 ∷ []); gives = refuses 1 t [] }

unfoldable pub search_cases : List Case
search_cases =
    unsound_search search-of-40-bytes (take 40 (films_from 0))
    ∷ unsound_search search-with-action-2 (search_of FILM-any 0 2 0 0 0)
    ∷ unsound_search search-with-action-0 (search_of FILM-any 0 0 0 0 0)
    ∷ unsound_search search-with-type-5 (search_of FILM-any 5 5 0 0 0)
    ∷ unsound_search search-behind-10000h (films_from 0x10001)
    -- "whatever the elements hold"
    ∷ record {
      name = search-at-10000h;
      on = films (films_from 0x10000) quiet_head small_elements;
      call = asks (0x00 ∷ 0 ∷ 0 ∷ 0 ∷ 0 ∷ 0 ∷ []);
      gives = ends_on 0x00 (films (films_from 0x10000) quiet_head small_elements);
    }
    -- "reset clears it"
    ∷ record {
      name = reset-clears-the-search;
      on = films (films_from 0x1001) quiet_head small_elements;
      call = Reset;
      gives = ends_on 0x00 (films no_search (head_of 0 0 (awaits 0x29 0x00) (awaits 0x29 0x00) (awaits 0x29 0x00)) small_elements);
    }
    -- number 5 tells nothing
    ∷ (let t = films (films_from 0) quiet_head small_elements in
    record { name = REQUEST-number-5; on = t; call = sends 1 (request_block 0 0 9 256) [] (lent_buffer 47); gives = refuses 5 t (lent_buffer 47) })
    -- byte 9 is reserved in table 20 of document 001
    ∷ record {
      name = REQUEST-byte-9;
      on = films (films_from 0) quiet_head small_elements;
      call = asks (put (request_block 0 0 9 256) 9 (1 ∷ []));
      gives = ends_on 0x02 (films (films_from 0) (head_of 0 0 (senses 5 0x24 0x00) quiet quiet) small_elements);
    }
    ∷ []

-- "P1 to P12 are one table", with the rows above
unfoldable pub cases : List Case
cases =
    moves ++ exchanges ++ cuts ++ read_all ++ shipped ++ numbers ++ event_numbers ++ step_cases ++ touch_cases ++ hold_cases ++ event_cases ++ mode_cases ++ long_cases
    ++ shelf_moves ++ shelf_exchanges ++ source_cases ++ panel_cases ++ fit_moves ++ fit_exchanges ++ fit_cases ++ arm_moves ++ arm_exchanges ++ tag_cases ++ holder_cases
    ++ find_cases ++ match_cases ++ search_cases

-- ---- the test over all rows: the names of those whose outcome is another

unfoldable pub same : List ℕ → List ℕ → Bool
same [] [] = true
same [] (y ∷ ys) = false
same (x ∷ xs) [] = false
same (x ∷ xs) (y ∷ ys) = when (eqb x y) (same xs ys) false

unfoldable pub same_all : List (List ℕ) → List (List ℕ) → Bool
same_all [] [] = true
same_all [] (y ∷ ys) = false
same_all (x ∷ xs) [] = false
same_all (x ∷ xs) (y ∷ ys) = all_of (same x y ∷ same_all xs ys ∷ [])

unfoldable pub same_outcome : Outcome → Outcome → Bool
same_outcome o p =
    all_of
    (eqb o.number p.number
    ∷ eqb o.status p.status
    ∷ eqb o.count p.count
    ∷ eqb o.preventers p.preventers
    ∷ eqb o.lowest p.lowest
    ∷ same o.tables.head p.tables.head
    ∷ same o.tables.elements p.tables.elements
    ∷ same_all (row o.tables.rest) (row p.tables.rest)
    ∷ same o.buffer p.buffer
    ∷ [])

unfoldable pub wrong : List Case → List Name
wrong [] = []
wrong (c ∷ cs) = when (same_outcome (serve c.on c.call) c.gives) (wrong cs) (c.name ∷ wrong cs)
