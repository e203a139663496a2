use Rattle.std.proofs.Common.{◌≡◌, length, sym, ap, ◌∙◌, arith}
use Rattle.usb_kernel.specs.Tickets.{tickets}
use Rattle.usb_bot_disk.specs.DiskState.{DiskState}
use Rattle.usb_bot_disk.proofs.TurnLemmas.{HasActed, HasNotActed, acted-turned, acted-turn, acted-later, acted-less, unacted-turned, unacted-turn, unacted-later, unacted-falls, unacted-still}
use Rattle.usb_bot_disk.proofs.disk_bus.DiskBusBus.turn.Goals as goal

-- an action of the disk
pub returns-then-act-clause-state : goal.returns-then-act-clause-state
returns-then-act-clause-state c =
    let has : HasActed c.args.self.now c.act.new.self = record { is = c.act.ensures.bus; acts = sym c.if-act.true ∙ c.act.ensures.acts } in
    acted-later c.args.self.now c.act.new.self has

pub returns-then-act-clause-falls : goal.returns-then-act-clause-falls
returns-then-act-clause-falls c =
    let has : HasActed c.args.self.now c.act.new.self = record { is = c.act.ensures.bus; acts = sym c.if-act.true ∙ c.act.ensures.acts } in
    let count : length (tickets c.act.new.self.host.kernel.past) ≡ c.tickets-count.result =
    ap (λ (x : DiskState). length (tickets x.host.kernel.past)) (sym c.self.view_is) ∙ sym c.tickets-count.ensures.number in
    acted-less c.args.self.now c.act.new.self has c.act.ensures.before c.act.ensures.came c.if-act.ensures.after (omega (arith, count, c.tickets-count.type_inv))

pub returns-then-act-clause-turn : goal.returns-then-act-clause-turn
returns-then-act-clause-turn c =
    let has : HasActed c.args.self.now c.act.new.self = record { is = c.act.ensures.bus; acts = sym c.if-act.true ∙ c.act.ensures.acts } in
    acted-turn c.args.self.now c.act.new.self has

pub returns-then-act-clause-ok : goal.returns-then-act-clause-ok
returns-then-act-clause-ok c =
    let has : HasActed c.args.self.now c.act.new.self = record { is = c.act.ensures.bus; acts = sym c.if-act.true ∙ c.act.ensures.acts } in
    acted-turned c.args.self.now c.act.new.self has

-- the host's own turn
pub returns-clause-state : goal.returns-clause-state
returns-clause-state c =
    let i = c.self.inside in
    let mid : DiskState = record { host = i.host; device = i.device; out = i.out; inp = i.inp; machine = i.machine; blanks = i.blanks } in
    let has : HasNotActed c.args.self.now mid = record { is = c.self.view_is ∙ c.act.ensures.bus; none = sym c.if-act.false ∙ c.act.ensures.acts } in
    unacted-later c.args.self.now mid has c.turn.new.self c.turn.ensures.state

pub returns-clause-falls : goal.returns-clause-falls
returns-clause-falls c =
    let i = c.self.inside in
    let mid : DiskState = record { host = i.host; device = i.device; out = i.out; inp = i.inp; machine = i.machine; blanks = i.blanks } in
    let has : HasNotActed c.args.self.now mid = record { is = c.self.view_is ∙ c.act.ensures.bus; none = sym c.if-act.false ∙ c.act.ensures.acts } in
    unacted-falls c.args.self.now mid has c.turn.new.self c.turn.result c.turn.ensures.ok c.turn.ensures.falls

pub returns-clause-still : goal.returns-clause-still
returns-clause-still c =
    let i = c.self.inside in
    let mid : DiskState = record { host = i.host; device = i.device; out = i.out; inp = i.inp; machine = i.machine; blanks = i.blanks } in
    let has : HasNotActed c.args.self.now mid = record { is = c.self.view_is ∙ c.act.ensures.bus; none = sym c.if-act.false ∙ c.act.ensures.acts } in
    λ up. unacted-still c.args.self.now mid has c.turn.new.self (c.turn.ensures.still up)

pub returns-clause-turn : goal.returns-clause-turn
returns-clause-turn c =
    let i = c.self.inside in
    let mid : DiskState = record { host = i.host; device = i.device; out = i.out; inp = i.inp; machine = i.machine; blanks = i.blanks } in
    let has : HasNotActed c.args.self.now mid = record { is = c.self.view_is ∙ c.act.ensures.bus; none = sym c.if-act.false ∙ c.act.ensures.acts } in
    unacted-turn c.args.self.now mid has c.turn.result c.turn.ensures.turn

pub returns-clause-ok : goal.returns-clause-ok
returns-clause-ok c =
    let i = c.self.inside in
    let mid : DiskState = record { host = i.host; device = i.device; out = i.out; inp = i.inp; machine = i.machine; blanks = i.blanks } in
    let has : HasNotActed c.args.self.now mid = record { is = c.self.view_is ∙ c.act.ensures.bus; none = sym c.if-act.false ∙ c.act.ensures.acts } in
    unacted-turned c.args.self.now mid has c.turn.new.self c.turn.ensures.ok
