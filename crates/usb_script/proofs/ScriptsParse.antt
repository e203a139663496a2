-- Every generated text is a script.
use Rattle.std.proofs.Common.{◌≡◌, ℕ, ◌≤◌, zero, suc, List, [], ◌++◌, length, take, drop, codes, refl, ap, sym, ◌∙◌, arith, append-nil, length-drop}
use Rattle.std.proofs.lemmas.List.{length-take}
use Rattle.hex.specs.Hex.{IsBytes}
use Rattle.usb_script_words.specs.Lines.{lines_of}
use Rattle.usb_script.specs.Parse.{parse_from}
use Rattle.usb_script.proofs.ParseOn.{script_of_read}
use Rattle.usb_script.specs.Generated.{line, message, packet_count, read_count, round_trip, round_trips, generated}
use Rattle.usb_script.specs.Scripts.{GeneratedScriptsParse}
use Rattle.usb_script.proofs.Lengths.{length-message, length-generated}
use Rattle.usb_script.proofs.LinesRead.{end_reads, echo_reads, flush_reads, read_reads, taken_end_reads, opening_items, opening_reads}
use Rattle.usb_script.proofs.ReadOn.{Reads, nothing_reads, both_read, times_read}
use Rattle.usb_script.proofs.WritesRead.{write_reads, message_bytes, bytes_of_front, bytes_of_back}

round_trip_reads : (bytes : List ℕ) → IsBytes bytes → length bytes ≤ 65536 → Reads (round_trip bytes)
unfolding round_trip
round_trip_reads bytes are few =
    let front : length (take 128 bytes) ≤ 65536 = omega (arith, length-take 128 bytes) in
    let back : length (drop 128 bytes) ≤ 65536 = omega (arith, length-drop 128 bytes) in
    let first = write_reads (take 128 bytes) (bytes_of_front 128 bytes are) front in
    let more = write_reads (drop 128 bytes) (bytes_of_back 128 bytes are) back in
    let echoes = times_read (packet_count (length bytes)) (line (codes "! echo k0 02 81")) echo_reads in
    let reads = times_read (read_count (length bytes)) (line (codes "sread r0 200")) read_reads in
    both_read _ _ (both_read _ _ (both_read _ _ (both_read _ _ (both_read _ _ (both_read _ _ first more) end_reads) echoes) flush_reads) reads) taken_end_reads

round_trips_read : (n : ℕ) → Reads (round_trips n)
unfolding round_trips
round_trips_read zero = nothing_reads
round_trips_read (suc n) =
    let few : length (message n) ≤ 65536 = omega (arith, length-message n) in
    both_read (round_trips n) (round_trip (message n)) (round_trips_read n)
    (round_trip_reads (message n) (message_bytes n) few)

pub generated_scripts_parse : GeneratedScriptsParse
unfolding generated
generated_scripts_parse n some few =
    let messages = round_trips_read n in
    let last = messages.on opening_items 10 [] in
    let parsed : parse_from (opening_items ++ messages.items) last.0 (lines_of []) ≡ parse_from [] 1 (lines_of (generated n)) =
    sym (opening_reads (round_trips n) ∙ ap (λ (text : List ℕ). parse_from opening_items 10 (lines_of text)) (sym (append-nil (round_trips n))) ∙ last.1) in (
      opening_items ++ messages.items,
      script_of_read (generated n) [] (opening_items ++ messages.items) last.0 (length-generated n few) parsed refl,
    )
