use Rattle.std.proofs.Common.{ap, inl, inr, sym, refl, arith, ◌∙◌}
use Rattle.slab.proofs.SlabLemmas.{Contains-cons, Contains-cons_cases, Contains-entries}
use Rattle.usb_device_tables.proofs.EntryLemmas.{no-contained}
use Rattle.usb_device_tables.proofs.registry.find_place.Goals as goal

pub returns-then-entry-key-clause-found : goal.returns-then-entry-key-clause-found
returns-then-entry-key-clause-found g c = record { entry = c.in-Some.entry.now; at = sym (c.in-Some.ensures); serial_is = c.if-entry-key.true }

pub loop-place-init : goal.loop-place-init
loop-place-init g c =
    let left = c.into_iter-place-iterator.ensures.into_iter_gives ∙ c.iter-place-items.ensures.rest in (
      tt,
      tt,
      λ place e found same. rw left ((Contains-entries c.args.entries.now place e).1 found),
      λ place e there. (Contains-entries c.args.entries.now place e).0 (rw left at there),
    )

pub returns-then-entry-key-2-clause-found : goal.returns-then-entry-key-2-clause-found
returns-then-entry-key-2-clause-found g c =
    let at = c.in-Some-2.ensures.steps in
    record {
      entry = c.in-Some-2.entry.now;
      at = c.loop-place.invariant.3 c.in-Some-2.place c.in-Some-2.entry.now (rw at (0, omega arith, refl));
      serial_is = c.if-entry-key-2.true;
    }

pub loop-place-preserved : goal.loop-place-preserved
loop-place-preserved g c =
    let at = c.in-Some-2.ensures.steps in (
      tt,
      tt,
      λ place e found serial. elim (Contains-cons_cases _ _ _ (rw at at (c.loop-place.invariant.2 place e found serial))) [
        | inl same ↦ elim (c.if-entry-key-2.false (ap (λ p. p.1.serial) same ∙ serial)) [ ]
        | inr rest ↦ rest
      ],
      λ place e there. c.loop-place.invariant.3 place e (rw at (Contains-cons _ _ _ there)),
    )

pub returns-clause-absent : goal.returns-clause-absent
returns-clause-absent g c = λ place h. no-contained _ (rw c.in-None.ensures.steps.0 at (c.loop-place.invariant.2 place h.entry h.at h.serial_is))
