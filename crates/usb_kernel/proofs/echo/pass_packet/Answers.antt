use Rattle.std.proofs.Common.{◌≡◌, ◌-◌, take, drop, set, arith, ap, sym, ◌∙◌}
use Rattle.std.proofs.lemmas.Option.{slice_get_within}
use Rattle.std.proofs.lemmas.List.{length-set}
use Rattle.usb_kernel.specs.declared.record.Record.{Record}
use Rattle.usb_kernel.specs.Rows.{row_with_packet}
use Rattle.usb_kernel.specs.Passing.{row_taken}
use Rattle.usb_kernel.proofs.RecordLemmas.{rows-length}
use Rattle.usb_kernel.proofs.Echoes.{taken-between, acked-has, acked-counts}
use Rattle.usb_kernel.proofs.Passing.{sends-open, goes_on-sent, sent-first, to-inside, takes-open, goes_on-got, got-first, given-back, pass-records, sender-again, pass-rows, pass-freed}
use Rattle.usb_kernel.proofs.echo.pass_packet.Goals as goal

pub at_mut-sender-requires : goal.at_mut-sender-requires
at_mut-sender-requires g c =
    let records = c.args.tickets.now.records.items in
    record { within = omega (arith, rows-length records, slice_get_within _ c.args.from c.requires.sends.row c.requires.sends.here) }

pub take_ack-requires : goal.take_ack-requires
take_ack-requires g c =
    let row = sends-open c.args.tickets.now.records.items c.args.from c.args.to c.requires.sends c.requires.takes c.at_mut-sender.result.now c.at_mut-sender.ensures.record in
    record { output = row.0; unfinished = row.1.0; roomy = row.1.1 }

pub follow-freed-requires : goal.follow-freed-requires
follow-freed-requires g c =
    let records = c.args.tickets.now.records.items in
    let goes = goes_on-sent records c.args.from c.args.to c.requires.sends c.requires.takes c.at_mut-sender.result.now c.at_mut-sender.ensures.record c.take_ack.new.self c.take_ack.ensures.row in
    record { following = record { records = records; listed = c.requires.listed; goes_on = goes } }

pub returns-in_default : goal.returns-in_default
returns-in_default g c =
    let row = sends-open c.args.tickets.now.records.items c.args.from c.args.to c.requires.sends c.requires.takes c.at_mut-sender.result.now c.at_mut-sender.ensures.record in
    absurd (acked-has c.at_mut-sender.result.now.row c.take_ack.new.self row c.take_ack.ensures.row (sym c.take.ensures.value ∙ c.in_default.is))

pub at_mut-taker-requires : goal.at_mut-taker-requires
at_mut-taker-requires g c =
    let records = c.args.tickets.now.records.items in
    record { within = omega (arith, to-inside records c.args.from c.args.to c.requires.sends c.requires.takes c.at_mut-sender.result.now c.at_mut-sender.ensures.record, length-set records c.args.from (record c.at_mut-sender.result.now { row = record c.take_ack.new.self { buffer = c.take.new.self } })) }

pub slice_bounds-take_packet-start : goal.slice_bounds-take_packet-start
slice_bounds-take_packet-start g c =
    let row = sends-open c.args.tickets.now.records.items c.args.from c.args.to c.requires.sends c.requires.takes c.at_mut-sender.result.now c.at_mut-sender.ensures.record in
    (acked-counts c.at_mut-sender.result.now.row c.take_ack.new.self c.in-Some.sent row c.take_ack.ensures.row (sym c.take.ensures.value ∙ c.in-Some.is)).0

pub slice_bounds-take_packet-end : goal.slice_bounds-take_packet-end
slice_bounds-take_packet-end g c =
    let row = sends-open c.args.tickets.now.records.items c.args.from c.args.to c.requires.sends c.requires.takes c.at_mut-sender.result.now c.at_mut-sender.ensures.record in
    rw c.as_slice.ensures.bytes (acked-counts c.at_mut-sender.result.now.row c.take_ack.new.self c.in-Some.sent row c.take_ack.ensures.row (sym c.take.ensures.value ∙ c.in-Some.is)).1

pub take_packet-requires : goal.take_packet-requires
take_packet-requires g c =
    let lent : Record = record c.at_mut-sender.result.now { row = record c.take_ack.new.self { buffer = c.take.new.self } } in
    let row = takes-open c.args.tickets.now.records.items c.args.from c.args.to c.requires.sends c.requires.takes c.at_mut-sender.result.now c.at_mut-sender.ensures.record lent c.at_mut-taker.result.now c.at_mut-taker.ensures.record in
    record { input = row.0; unfinished = row.1.0; roomy = row.1.1 }

pub follow-more-requires : goal.follow-more-requires
follow-more-requires g c =
    let records = c.args.tickets.now.records.items in
    let x = c.at_mut-sender.result.now in
    let at = c.at_mut-sender.ensures.record in
    let z = c.at_mut-taker.result.now in
    let acked = c.take_ack.new.self in
    let lent : Record = record x { row = record acked { buffer = c.take.new.self } } in
    let sends = c.requires.sends in
    let takes = c.requires.takes in
    let goes = goes_on-sent records c.args.from c.args.to sends takes x at acked c.take_ack.ensures.row in
    record {
      following = record {
        records = set records c.args.from (record x { row = acked });
        listed = c.follow-freed.ensures.listed records c.requires.listed goes (sent-first records c.args.from c.args.to sends takes x at acked c.take_ack.ensures.row);
        goes_on = goes_on-got records c.args.from c.args.to sends takes x at lent z c.at_mut-taker.ensures.record acked c.take_ack.ensures.row c.take_packet.new.self _ c.take_packet.ensures.row;
      };
    }

pub at_mut-sender-requires-2 : goal.at_mut-sender-requires-2
at_mut-sender-requires-2 g c =
    let records = c.args.tickets.now.records.items in
    let lent : Record = record c.at_mut-sender.result.now { row = record c.take_ack.new.self { buffer = c.take.new.self } } in
    let got : Record = record c.at_mut-taker.result.now { row = c.take_packet.new.self } in
    record { within = omega (arith, slice_get_within records c.args.from c.at_mut-sender.result.now c.at_mut-sender.ensures.record, length-set records c.args.from lent, length-set (set records c.args.from lent) c.args.to got) }

pub returns-clause-listed : goal.returns-clause-listed
returns-clause-listed g c =
    let records = c.args.tickets.now.records.items in
    let x = c.at_mut-sender.result.now in
    let at = c.at_mut-sender.ensures.record in
    let z = c.at_mut-taker.result.now in
    let acked = c.take_ack.new.self in
    let lent : Record = record x { row = record acked { buffer = c.take.new.self } } in
    let got : Record = record z { row = c.take_packet.new.self } in
    let sends = c.requires.sends in
    let takes = c.requires.takes in
    let is = c.take_ack.ensures.row in
    let there = c.at_mut-taker.ensures.record in
    let again = sender-again records c.args.from c.args.to sends takes x at lent z there acked is got c.at_mut-sender-2.result.now c.at_mut-sender-2.ensures.record in
    let back = given-back x c.at_mut-sender-2.result.now acked c.take.new.self c.in-Some.sent again (sym c.take.ensures.value ∙ c.in-Some.is) in
    let listed = c.follow-freed.ensures.listed records c.requires.listed (goes_on-sent records c.args.from c.args.to sends takes x at acked is) (sent-first records c.args.from c.args.to sends takes x at acked is) in
    rw (pass-records records c.args.from c.args.to sends takes x at lent z there acked is got _ back)
    (c.follow-more.ensures.listed _ listed (goes_on-got records c.args.from c.args.to sends takes x at lent z there acked is c.take_packet.new.self _ c.take_packet.ensures.row) (got-first records c.args.from c.args.to sends takes x at lent z there acked is c.take_packet.new.self _ c.take_packet.ensures.row))

pub returns-clause-rows : goal.returns-clause-rows
returns-clause-rows g c =
    let records = c.args.tickets.now.records.items in
    let x = c.at_mut-sender.result.now in
    let at = c.at_mut-sender.ensures.record in
    let z = c.at_mut-taker.result.now in
    let acked = c.take_ack.new.self in
    let lent : Record = record x { row = record acked { buffer = c.take.new.self } } in
    let got : Record = record z { row = c.take_packet.new.self } in
    let sends = c.requires.sends in
    let takes = c.requires.takes in
    let is = c.take_ack.ensures.row in
    let there = c.at_mut-taker.ensures.record in
    let some = sym c.take.ensures.value ∙ c.in-Some.is in
    let again = sender-again records c.args.from c.args.to sends takes x at lent z there acked is got c.at_mut-sender-2.result.now c.at_mut-sender-2.ensures.record in
    let back = given-back x c.at_mut-sender-2.result.now acked c.take.new.self c.in-Some.sent again some in
    let gets : c.take_packet.new.self ≡ row_with_packet z.row (row_taken x.row) =
    c.take_packet.ensures.row ∙ ap (row_with_packet z.row) (ap (λ bytes. take (acked.count - x.row.count) (drop x.row.count bytes)) c.as_slice.ensures.bytes ∙ taken-between x.row acked c.in-Some.sent is some) in
    rw (pass-records records c.args.from c.args.to sends takes x at lent z there acked is got _ back)
    (pass-rows records c.args.from c.args.to sends takes x at lent z there acked is c.take_packet.new.self gets)

pub returns-clause-places : goal.returns-clause-places
returns-clause-places g c =
    let records = c.args.tickets.now.records.items in
    let x = c.at_mut-sender.result.now in
    let at = c.at_mut-sender.ensures.record in
    let z = c.at_mut-taker.result.now in
    let acked = c.take_ack.new.self in
    let lent : Record = record x { row = record acked { buffer = c.take.new.self } } in
    let got : Record = record z { row = c.take_packet.new.self } in
    let sends = c.requires.sends in
    let takes = c.requires.takes in
    let is = c.take_ack.ensures.row in
    let there = c.at_mut-taker.ensures.record in
    let again = sender-again records c.args.from c.args.to sends takes x at lent z there acked is got c.at_mut-sender-2.result.now c.at_mut-sender-2.ensures.record in
    let back = given-back x c.at_mut-sender-2.result.now acked c.take.new.self c.in-Some.sent again (sym c.take.ensures.value ∙ c.in-Some.is) in
    rw (pass-records records c.args.from c.args.to sends takes x at lent z there acked is got _ back)
    (pass-freed records c.args.from c.args.to sends takes x at lent z there acked is c.take_packet.new.self _ c.follow-freed.result c.follow-more.result c.take_packet.ensures.row c.follow-freed.ensures.freed c.follow-more.ensures.freed)
