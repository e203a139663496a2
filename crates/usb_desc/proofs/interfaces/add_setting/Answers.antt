use Rattle.std.proofs.Common.{ℕ, List, ◌≡◌, ◌∙◌, ◌<◌, sym, ap, arith, length, [], get_or}
use Rattle.std.proofs.lemmas.List.{get_or_read}
use Rattle.usb_desc.specs.Fields.{interface_number}
use Rattle.usb_desc.specs.Interfaces as spec
use Rattle.std.specs.Prelude.{insert}
use Rattle.usb_desc.proofs.InterfaceLemmas.{IsPlace, added_same, added_new, on_ok_then, place_from_back}
use Rattle.usb_desc.proofs.interfaces.add_setting.Goals as goal
use Rattle.usb_desc.proofs.interfaces.add_setting.Goals.{After-place_of-place, else-place-len-via-then-place-len+else-interface_number-number, else-place-len-via-else-place-len}

-- the place that was found is that of the setting's number
found : (c : After-place_of-place) (settings : List (List ℕ)) → c.args.groups.now.items ≡ spec.interfaces_among settings → IsPlace (interface_number c.args.setting) c.args.groups.now.items c.place_of-place.result
found c settings are =
    let value = c.deref.ensures.value in
    let field = c.interface_number-number.ensures.field in
    let place = c.place_of-place.ensures in
    place_from_back _ settings _ _ are (rw value at place.within) (simp (value, field) at place.below) (simp (value, field) at place.behind)

pub returns-then-interface_number-number : goal.returns-then-interface_number-number
returns-then-interface_number-number c =
    let groups = c.args.groups.now.items in
    let setting = c.args.setting in
    let place = c.place_of-place.result in
    let is = found (goal.at.returns-then-interface_number-number c).After-place_of-place in
    let inside : place < length groups = omega (arith, c.args.groups.now.ok.0) in
    let low : interface_number setting < 256 = omega arith in
    let same : spec.number_of c.index.result.now ≡ interface_number setting = sym c.interface_number.ensures.first ∙ c.if-interface_number-number.true ∙ c.interface_number-number.ensures.field in
    record {
      added = λ settings are. on_ok_then c.push.result c.push.ensures.items (λ pushed.
          added_same setting groups place low settings are (is settings are) c.index.result.now c.index_mut-group.result.now c.push.new.self inside c.index.ensures same c.index_mut-group.ensures.value pushed);
    }

-- no interface with the setting's number stands at the place
absent : (c : goal.In_ok-insert) → c.place_of-place.result < length c.args.groups.now.items → spec.number_of (get_or c.args.groups.now.items c.place_of-place.result []) ≡ interface_number c.args.setting → ⊥
absent c = elim c.else-place-len.branch [
  | else-place-len-via-then-place-len+else-interface_number-number w ↦ λ inside same.
      let held = get_or_read c.args.groups.now.items c.place_of-place.result w.index.result.now inside w.index.ensures [] in
      w.if-interface_number-number.false (w.interface_number.ensures.first ∙ ap spec.number_of held ∙ same ∙ sym c.interface_number-number.ensures.field)
  | else-place-len-via-else-place-len w ↦ λ inside same. omega (arith, c.args.groups.now.ok.0, w.if-place-len.false)
]

pub returns-in_ok-insert : goal.returns-in_ok-insert
returns-in_ok-insert c =
    let groups = c.args.groups.now.items in
    let setting = c.args.setting in
    let place = c.place_of-place.result in
    let is = found (goal.at.returns-in_ok-insert c).After-place_of-place in
    let low : interface_number setting < 256 = omega arith in
    record {
      added = λ settings are.
          c.in_ok-insert.ensures.items
          ∙ ap (insert groups place) c.in_ok-group.ensures.items
          ∙ added_new setting groups place low settings are (is settings are) (absent c);
    }
