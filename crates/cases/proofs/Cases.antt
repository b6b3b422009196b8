-- The cases, by computation.
use mathlib.Core.Path.{◌≡◌, refl}
use Rattle.sequence.specs.Sequence.{class_at, psn_class}
use Rattle.opcode.specs.Opcode as opcode
use Rattle.opcode.specs.Opcode.{kind_of, place_in, send_write_follows, follows_of, length_of, low_class, class_of}
use Rattle.header.specs.Read as read
use Rattle.header.specs.Read.{bth_of, extension_of, header_of, bad_length, other_service}
use Rattle.header.specs.Write.{bth_bytes, aeth_bytes, extension_bytes, header_bytes, header_length}
use Rattle.header.specs.Check.{full_member, pkeys_match, wrong_service, is_response, beyond_service, header_checks, admitted}
use Rattle.memory.specs.Memory.{overwrite, store}
use Rattle.memory.specs.Word.{low_bytes, low_number, word_at, store_word, fetch_added}
use Rattle.packet.specs.Packet.{pad_of, packet_bytes}
use Rattle.opcode.specs.Place.{ends, starts}
use Rattle.pmtu.specs.Pieces.{pmtu_fits, pieces, place_at, piece_at, part_at}
use Rattle.table.specs.Table.{outside, past_top, region_outside, region_row, entry_row, sought, first_from, entry_slot}
use Rattle.table.specs.View.{region_of}
use Rattle.pair.specs.Answer.{status_number, executed}
use Rattle.pair.specs.Pair.{fresh_pair}
use Rattle.pair.specs.Sound.{setup_unfit, setup_unsound, counters_unsound, ring_unsound, message_unsound, read_unsound, pair_unsound}
use Rattle.pair.specs.Host.{set_up_status, set_up, set_up_regions, ready_status, made_ready, add_status, add_regions, post_status, posted, post_entries}
use Rattle.pair.specs.Calls.{begun, called, called_all}
use Rattle.cut_spec.specs.Message.{carries, carried, carried_length, message_length, packets_of, check_length, packets_answer, responses_answer}
use Rattle.cut_spec.specs.Next.{psns_of, next_psn, check_next, next_answer}
use Rattle.cut_spec.specs.Cut.{low_for, extension_for, bth_at, size_at, header_at, payload_at, cut_bytes}
use Rattle.request_spec.specs.Packet.{operands_of, packet_of}
use Rattle.request_spec.specs.Verdict.{carrying, out_of_sequence, not_enabled, pad_early, over_limit, needs_entry}
use Rattle.request_spec.specs.Verdict.{entries_waiting, none_waiting, uses_entry, entry_outside, key_lacking, key_fails}
use Rattle.request_spec.specs.Verdict.{size_off, total_off, payload_size, lengths_off, current, request_check, expected_check}
use Rattle.responder_spec.specs.Decide.{acknowledging, completes, completion_of, message_after, target_offset}
use Rattle.responder_spec.specs.Decide.{store_payload, execute, checked_decision, expected_decision, psn_before}
use Rattle.responder_spec.specs.Decide.{duplicate_decision, rc_decision, packet_decision, reads_full, inbound_refusal}
use Rattle.responder_spec.specs.Decide.{decision}
use Rattle.responder_spec.specs.Apply.{memory_by, acts_atomic, saved_ring_by, ring_taken, entries_by, msn_by, read_answer_by, executed_pair, pair_by_number, pair_by}
use Rattle.responder_spec.specs.Reply.{reply_header, ack_header, ack_bytes, over}
use Rattle.responder_spec.specs.Inbound.{sent_by, left_by, inbound}
use Rattle.cases.specs.Cases.Case.{W1, W2, W3, W4, W5, W6, W7, W8, W9, W10, W11, W12}
use Rattle.cases.specs.Cases.{class_number, count, next, posts, ready, standing, zeros, completion_numbers, left_numbers, given, once, found, said, Cases}

w1 : found W1 ≡ said W1
unfolding class_at psn_class class_number found said
w1 = refl

w2 : found W2 ≡ said W2
unfolding class_at psn_class class_number found said
w2 = refl

w3 : found W3 ≡ said W3
unfolding class_at psn_class class_number found said
w3 = refl

w4 : found W4 ≡ said W4
unfolding class_at psn_class class_number found said
w4 = refl

w5 : found W5 ≡ said W5
unfolding opcode.place_of place_in low_class class_of pmtu_fits pieces place_at carries carried_length message_length packets_of check_length packets_answer low_for bth_at header_at count found said
w5 = refl

w6 : found W6 ≡ said W6
unfolding pmtu_fits pieces carries carried_length message_length packets_of check_length packets_answer count found said
w6 = refl

w7 : found W7 ≡ said W7
unfolding pad_of pmtu_fits pieces piece_at part_at carries carried carried_length message_length packets_of check_length packets_answer bth_at size_at header_at payload_at count found said
w7 = refl

w8 : found W8 ≡ said W8
unfolding pmtu_fits pieces message_length check_length responses_answer psns_of next_psn check_next next_answer count next found said
w8 = refl

w9 : found W9 ≡ said W9
unfolding pmtu_fits pieces carries carried_length message_length packets_of check_length packets_answer count found said
w9 = refl

w10 : found W10 ≡ said W10
unfolding overwrite store low_bytes low_number word_at store_word fetch_added found said
w10 = refl

w11 : found W11 ≡ said W11
unfolding full_member pkeys_match found said
w11 = refl

w12 : found W12 ≡ said W12
unfolding class_at psn_class opcode.place_of kind_of place_in send_write_follows follows_of length_of low_class class_of
    read.read_by bth_of extension_of header_of bad_length other_service bth_bytes aeth_bytes extension_bytes header_bytes
    header_length full_member pkeys_match wrong_service is_response beyond_service header_checks admitted overwrite store pad_of
    packet_bytes pmtu_fits pieces place_at ends starts piece_at part_at outside past_top region_outside region_row entry_row
    sought first_from entry_slot region_of status_number executed fresh_pair setup_unfit setup_unsound counters_unsound ring_unsound
    message_unsound read_unsound pair_unsound set_up_status set_up set_up_regions ready_status made_ready add_status add_regions
    post_status posted post_entries begun called called_all carries carried carried_length packets_of low_for extension_for
    bth_at size_at header_at payload_at cut_bytes operands_of packet_of carrying out_of_sequence not_enabled pad_early over_limit
    needs_entry entries_waiting none_waiting uses_entry entry_outside key_lacking key_fails size_off total_off payload_size
    lengths_off current request_check expected_check acknowledging completes completion_of message_after target_offset
    store_payload execute checked_decision expected_decision psn_before duplicate_decision rc_decision packet_decision
    reads_full inbound_refusal memory_by acts_atomic saved_ring_by ring_taken entries_by msn_by read_answer_by executed_pair pair_by_number
    pair_by reply_header ack_header ack_bytes over sent_by left_by decision inbound
    posts ready standing zeros completion_numbers left_numbers given once found said
w12 = refl

pub cases : Cases
cases W1 = w1
cases W2 = w2
cases W3 = w3
cases W4 = w4
cases W5 = w5
cases W6 = w6
cases W7 = w7
cases W8 = w8
cases W9 = w9
cases W10 = w10
cases W11 = w11
cases W12 = w12
