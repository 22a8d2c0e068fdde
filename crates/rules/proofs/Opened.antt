-- Every definition of the rules opened, for computing: a proof that says `unfolding opened` opens them all. Assumes nothing.
use Rattle.rules.specs.Choice.{when, any_of, all_of, differ, below, any_from, each}
use Rattle.rules.specs.Bytes.{byte, word, triple, three, put, cut}
use Rattle.rules.specs.Tables.{Tables, places, volumes, unit, mask, key, asc, ascq, attention, attentionq, volume, source, holder, id, mark, zero_byte, panel, search_type, action, least, greatest, next_address, vacant, empty_shelves, prevents, allowing, preventing, sensed, attended, announced_to, announced, unit_held, masked, shown, filled, held_at, held, theirs, freed_at, freed, in_head, in_elements, in_search, change, changes}
use Rattle.rules.specs.Roster.{range, ranges, slots, spread, insert, sorted, roster, kind_at, place_of, kind_of, first_transport}
use Rattle.rules.specs.Sound.{within, counts_sound, range_sound, no_overlap, clear, ranges_sound, transport_empty, source_sound, mark_sound, stock_sound, hold_sound, once, sense_sound, attention_sound, head_sound, labels_sound, generations_sound, search_sound, rest_sound, elements_sound, panel_sound, drives_sound, sound}
use Rattle.rules.specs.Fitting.{generation, accepts, mask_of, drive_takes, unfit, suited}
use Rattle.rules.specs.Order.{Outcome, after, outcome, fits, good, check, conflict, other, held_by_other, volume_of, source_of, after_attention, after_unit, guarded, refused}
use Rattle.rules.specs.Operation.{decoded, operation}
use Rattle.rules.specs.Form.{unused, stray_from, stray, type_fault, action_fault, own_fault, lower, fault, formed}
use Rattle.rules.specs.Moves.{open_transport, transport_used, no_transport, no_place, leave, shelf_of, carry, move_of, move, exchange_of, exchange}
use Rattle.rules.specs.Holds.{of_unit, descriptors, wrong_list_length, reserved_bytes, number, address, first, many, unknown, too_many, meet, named_before, wrong_address, faults_from, taken, takes, conflicts, holds_from, granted, reserve_unit, reserve_elements, reserve, release_unit, release, new_mask, prevent}
use Rattle.rules.specs.Sense.{told, tells_attention, request_sense}
use Rattle.rules.specs.Listing.{with_tags, type_code, keep, of_type, at_or_above, chosen, flags, source_stands, label, front, descriptor, width, page_header, page, pages, joined, first_address, header, header_of, fitting, returned, wholes, chosen_of, chosen_by, pages_of, listing, read_status}
use Rattle.rules.specs.Search.{others_hold, after_others, alone, action_code, known_action, reserved_tags, search_for, send_tag, no_search, agrees_from, in_range, label_matches, volume_matches, found, found_by, told_by, behind_all, request_address}
use Rattle.rules.specs.Mode.{page_control, page_code, paged, assigned, assignments, members, capabilities, sought, mode_pages, mode_whole, known_page, no_answer, mode_sense}
use Rattle.rules.specs.Events.{preventers_from, preventers, lowest_from, lowest, no_port, at_port, present, wrong_volume, done, importing, exporting, restarted_from, resetting}
use Rattle.rules.specs.Command.{Call, act, admitted, steps_of, steps, wanted, group_fits, block_fits, parameters_fit, after_numbers, judged, judge, verdict, buffer_of, serve}
use Rattle.rules.specs.Numbers.{good_bytes, too_short, conditions, condition}
use Rattle.rules.specs.Histories.{next, run, outcomes, one, times, imported, exported, imports, exports, reply, told_to, run_requests, replies, joins, mixes, named_by, named}
use Rattle.rules.specs.Told.{went_well, goes_on, tells, renews, told_in, one_search}
use Rattle.rules.specs.Shelves.{vacated, shelf_after, last_shelf, beside, source_in}
use Rattle.rules.specs.Small.{small_ranges, host_bytes, quiet, senses, awaits, head_showing, head_of, element, empty, loaded, elements_of, small_tags, small_blank, small_generations, small_masks, library_of, library, quiet_showing, quiet_head, small_elements, small, move_block, exchange_block, by_arm, read_block, reserve_block, naming, filled_up, label_with, film_tags, films, search_of, tag_block, tag_list, request_block, sends, asks, lent_buffer}

-- a call, with every definition of the rules open
unfoldable pub opened : Tables → Call → Outcome
unfolding when any_of all_of differ below any_from each byte word triple three put cut places volumes unit mask key asc ascq attention attentionq volume source holder id mark zero_byte panel search_type action least greatest next_address vacant empty_shelves prevents allowing preventing sensed attended announced_to announced unit_held masked shown filled held_at held theirs freed_at freed in_head in_elements in_search change changes range ranges slots spread insert sorted roster kind_at place_of kind_of first_transport within counts_sound range_sound no_overlap clear ranges_sound transport_empty source_sound mark_sound stock_sound hold_sound once sense_sound attention_sound head_sound labels_sound generations_sound search_sound rest_sound elements_sound panel_sound drives_sound sound generation accepts mask_of drive_takes unfit suited after outcome fits good check conflict other held_by_other volume_of source_of after_attention after_unit guarded refused decoded operation unused stray_from stray type_fault action_fault own_fault lower fault formed open_transport transport_used no_transport no_place leave shelf_of carry move_of move exchange_of exchange of_unit descriptors wrong_list_length reserved_bytes number address first many unknown too_many meet named_before wrong_address faults_from taken takes conflicts holds_from granted reserve_unit reserve_elements reserve release_unit release new_mask prevent told tells_attention request_sense with_tags type_code keep of_type at_or_above chosen flags source_stands label front descriptor width page_header page pages joined first_address header header_of fitting returned wholes chosen_of chosen_by pages_of listing read_status others_hold after_others alone action_code known_action reserved_tags search_for send_tag no_search agrees_from in_range label_matches volume_matches found found_by told_by behind_all request_address page_control page_code paged assigned assignments members capabilities sought mode_pages mode_whole known_page no_answer mode_sense preventers_from preventers lowest_from lowest no_port at_port present wrong_volume done importing exporting restarted_from resetting act admitted steps_of steps wanted group_fits block_fits parameters_fit judged after_numbers judge verdict buffer_of serve good_bytes too_short conditions condition next run outcomes one times imported exported imports exports reply told_to run_requests replies joins mixes named_by named went_well goes_on tells renews told_in one_search vacated shelf_after last_shelf beside source_in small_ranges host_bytes quiet senses awaits head_showing head_of element empty loaded elements_of small_tags small_blank small_generations small_masks library_of library quiet_showing quiet_head small_elements small move_block exchange_block by_arm read_block reserve_block naming filled_up label_with film_tags films search_of tag_block tag_list request_block sends asks lent_buffer
opened t c = serve t c
