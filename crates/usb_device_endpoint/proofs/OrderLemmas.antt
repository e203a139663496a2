-- The order of completions.
use Rattle.std.proofs.Common.{ℕ, ◌≡◌, List, [], ◌∷◌, ◌++◌, sym, ◌∙◌, ap, append_assoc, append-nil}
use Rattle.usb_device_endpoint.specs.Histories.{HandleCall, Submitted, Taken, submitted_by, taken_by, Leads}
use Rattle.usb_device_endpoint.specs.EndpointState.{EndpointState}
use Rattle.usb_device_endpoint.specs.Laws.{TakenInOrder, SubmissionLeads, PollLeads, CallsCompose}

in-order : (calls : List HandleCall) (before pending : List ℕ) → Leads before calls pending → before ++ submitted_by calls ≡ taken_by calls ++ pending
in-order [] before pending leads = append-nil before ∙ leads
in-order (Submitted t ∷ calls) before pending leads = sym (append_assoc before (t ∷ []) (submitted_by calls)) ∙ in-order calls (before ++ t ∷ []) pending leads
in-order (Taken t ∷ calls) before pending leads =
    ap (λ (ts : List ℕ). ts ++ submitted_by calls) leads.1 ∙ ap (λ (ts : List ℕ). t ∷ ts) (in-order calls leads.0 pending leads.2)

pub taken_in_order : TakenInOrder
taken_in_order calls pending leads = in-order calls [] pending leads

pub submission_leads : SubmissionLeads
submission_leads e next t after = sym (ap (λ (x : EndpointState). x.pending) after)

pub poll_leads : PollLeads
poll_leads e next t others was after = (others, was, sym (ap (λ (x : EndpointState). x.pending) after))

pub calls_compose : CallsCompose
calls_compose [] second before between after leads rest = rw leads rest
calls_compose (Submitted t ∷ calls) second before between after leads rest = calls_compose calls second (before ++ t ∷ []) between after leads rest
calls_compose (Taken t ∷ calls) second before between after leads rest = (leads.0, leads.1, calls_compose calls second leads.0 between after leads.2 rest)
