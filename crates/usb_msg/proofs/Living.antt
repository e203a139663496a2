-- A client keeps what its tickets say over all its calls.
use Rattle.std.proofs.Common.{◌≡◌, ◌∙◌, ℕ, List, [], ◌∷◌, ◌++◌, append_assoc, append-nil, ap, sym, subst}
use Rattle.usb_kernel.specs.declared.event.Event.{Event}
use Rattle.usb_kernel.specs.Legal.{IsLawful}
use Rattle.usb_kernel.specs.Extends.{Extends}
use Rattle.usb_kernel.proofs.Extends.{extends-trans}
use Rattle.usb_msg.specs.Clients.{ClientState}
use Rattle.usb_msg.specs.Histories.{ClientHistory, nothing_done, Keeps}
use Rattle.usb_msg.specs.Lives.{Called, Lives, asked_in, told_in, ClientsLive}
use Rattle.usb_msg.proofs.Steps.{fresh_keeps, later_keeps}
use Rattle.usb_msg.proofs.KeepLemmas.{lawful-before}

lives-extend : (past now : List Event) (c d : ClientState) (ms : List Called) → Lives past c ms now d → Extends past now
lives-extend past now c d [] lives = lives.0
lives-extend past now c d (m ∷ ms) lives =
    extends-trans past m.before now lives.0 (extends-trans m.before m.after now lives.2 (lives-extend m.after now m.new d ms lives.4))

lives-keep : (past now : List Event) (c d : ClientState) (ms : List Called) (h : ClientHistory) → Lives past c ms now d → IsLawful now → Keeps past c h
    → (h' : ClientHistory) × (h'.requests ≡ h.requests ++ asked_in ms) × (h'.responses ≡ h.responses ++ told_in ms) × Keeps now d h'
lives-keep past now c d [] h lives lawful k =
    (h, sym (append-nil h.requests), sym (append-nil h.responses), subst (λ (x : ClientState). Keeps now x h) lives.1 (later_keeps past now c h lives.0 k))
lives-keep past now c d (m ∷ ms) h lives lawful k =
    let after = lawful-before m.after now (lives-extend m.after now m.new d ms lives.4) lawful in
    let one = lives.3 after h (subst (λ (x : ClientState). Keeps m.before x h) lives.1 (later_keeps past m.before c h lives.0 k)) in
    let rest = lives-keep m.after now m.new d ms one.0 lives.4 lawful one.3 in (
      rest.0,
      rest.1 ∙ ap (λ (xs : List (List ℕ)). xs ++ asked_in ms) one.1 ∙ append_assoc h.requests m.asked (asked_in ms),
      rest.2 ∙ ap (λ (xs : List (List ℕ)). xs ++ told_in ms) one.2 ∙ append_assoc h.responses m.told (told_in ms),
      rest.3,
    )

pub clients_live : ClientsLive
clients_live past now out inp d ms none_out none_in lives lawful = lives-keep past now _ d ms nothing_done lives lawful (fresh_keeps past out inp none_out none_in)
