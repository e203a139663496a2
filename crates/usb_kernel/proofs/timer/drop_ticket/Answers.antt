use Rattle.std.proofs.Common.{◌≡◌, ◌∷◌, reverse, vec_len, vec_capacity, sym, ◌∙◌}
use Rattle.std.specs.List.{sum_by}
use Rattle.usb_kernel.specs.declared.event.Event.TheVariants.{Discard}
use Rattle.usb_kernel.specs.Rows.{Agrees, owed}
use Rattle.usb_kernel.specs.Steps.{after_discard}
use Rattle.usb_kernel.proofs.Discards.{unfinished-none, unfinished-some}
use Rattle.usb_kernel.proofs.Freed.{no_more}
use Rattle.usb_kernel.proofs.Kept.{same-spare, room-one}
use Rattle.usb_kernel.proofs.timer.drop_ticket.Goals as goal

pub drop_open-requires : goal.drop_open-requires
drop_open-requires g c = record { roomy = c.requires.agrees.roomy }

pub returns-in_default : goal.returns-in_default
returns-in_default g c =
    let past = reverse c.args.journal.now.items in
    let acts : after_discard past c.args.ticket ≡ past = c.in_default.ensures.acts past c.requires.agrees in
    let agrees : Agrees past c.drop_open.new.self.rows = rw acts at (c.in_default.ensures.agrees past c.requires.agrees) in
    record {
      journal = sym acts;
      acts = sym (unfinished-none past c.args.ticket acts);
      deadline = tt;
      lawful = λ lawful. lawful;
      agrees = agrees;
      places = c.in_default.ensures.places;
      len = sym (no_more (vec_len c.args.journal.now));
      capacity = same-spare (vec_capacity c.args.journal.now);
      looks = c.drop_open.ensures.looks;
    }

pub put-requires : goal.put-requires
put-requires g c = record { room = room-one c.args.journal.now (sum_by owed c.drop_open.new.self.rows) (sum_by owed c.args.table.now.rows) c.in-Some.ensures.places c.requires.room }

pub returns : goal.returns
returns g c =
    let past = reverse c.args.journal.now.items in
    let acts : after_discard past c.args.ticket ≡ Discard c.args.ticket ∷ past = c.in-Some.ensures.acts past c.requires.agrees in
    let agrees : Agrees (reverse c.put.new.journal.items) c.drop_open.new.self.rows = rw (c.put.ensures.items, ← acts) (c.in-Some.ensures.agrees past c.requires.agrees) in
    record {
      journal = c.put.ensures.items ∙ sym acts;
      acts = sym (unfinished-some past c.args.ticket acts);
      deadline = c.in-Some.ensures.deadline past c.requires.agrees;
      lawful = c.put.ensures.lawful tt;
      agrees = agrees;
      places = c.in-Some.ensures.places;
      len = c.put.ensures.len;
      capacity = c.put.ensures.capacity;
      looks = c.drop_open.ensures.looks;
    }
