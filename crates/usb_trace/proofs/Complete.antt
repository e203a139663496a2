-- A trace is answered yes, unless memory runs out.
use Rattle.std.proofs.Common.{◌≡◌, ℕ, List, Result, Ok, Err, ◌⊎◌, inl, inr, refl}
use Rattle.usb_trace.specs.declared.check.Verdict.{Verdict}
use Rattle.usb_trace.specs.declared.check.Verdict.TheVariants.{Yes, No}
use Rattle.usb_trace.specs.declared.error.TraceError.{TraceError}
use Rattle.usb_trace.specs.declared.error.TraceError.TheVariants.{Malformed, Memory}
use Rattle.usb_trace.specs.Begins.{IsForm}
use Rattle.usb_trace.specs.Fails.{FailsFirstAt}
use Rattle.usb_trace.specs.Verdicts.{IsTrace}
use Rattle.usb_trace.proofs.Judged.{trace-form, fails-not}

pub only-memory : (result : Result Verdict TraceError) (e : TraceError) (text : List ℕ) → result ≡ Err e → ((line : ℕ) → e ≡ Malformed line → FailsFirstAt IsForm text line) → IsTrace text → (result ≡ Ok Yes) ⊎ (result ≡ Err Memory)
only-memory result (Malformed line) text is fails t = absurd (fails-not IsForm text line (trace-form text t) (fails line refl))
only-memory result Memory text is fails t = inr is

pub only-yes : (result : Result Verdict TraceError) (v : Verdict) (text : List ℕ) → result ≡ Ok v → ((line : ℕ) → v ≡ No line → FailsFirstAt IsTrace text line) → IsTrace text → (result ≡ Ok Yes) ⊎ (result ≡ Err Memory)
only-yes result Yes text is fails t = inl is
only-yes result (No line) text is fails t = absurd (fails-not IsTrace text line t (fails line refl))
