use Rattle.std.proofs.Common.{◌≡◌, Bool, true, false, Some, Result, Ok, Err, refl, sym, ap, ◌∙◌, inl}
use Rattle.std.specs.Prelude.{◌↔◌, if◌then◌else◌}
use Rattle.usb_desc.specs.declared.string.StringError.{StringError}
use Rattle.usb_desc.specs.declared.string.StringError.TheVariants.{Invalid, Memory}
use Rattle.usb_desc.specs.Strings.{is_string, text}
use Rattle.usb_error.specs.Outcomes.{◌>>=◌}
use Rattle.usb_error.specs.declared.descriptor_error.GetDescriptorError.TheVariants.{InvalidDescriptor}
use Rattle.std.specs.Option.{option_map}
use Rattle.usb_device.specs.DescriptorCalls.{text_of}
use Rattle.usb_device.proofs.device.Device.get_string_descriptor.Goals as goal

-- for what is no string descriptor no memory is lacking
is-string : {A : Type 0} (b : Bool) (e : StringError) (r : Result A StringError) → r ≡ Err e → e ≡ Memory → ((r ≡ Err Invalid) ↔ (b ≡ false)) → b ≡ true
is-string true e r is memory invalid = refl
is-string false e r is memory invalid = absurd (let no = sym (is ∙ ap Err memory) ∙ invalid.1 refl in cc)

pub returns-in-Ok-clause-host : goal.returns-in-Ok-clause-host
returns-in-Ok-clause-host c =
    λ o at.
    let bytes = c.in-Ok.bytes.items in
    let came = rw c.get.ensures.value at (c.in-Ok.ensures.answer o at) in
    let asked = rw c.get.ensures.value at (c.in-Ok.ensures.host o at) in
    let valid : is_string bytes ≡ true = ap is_string (sym c.as_slice.ensures.value) ∙ is-string (is_string c.as_slice.result.now) c.in-Err-Memory.field-0 c.decode_string_descriptor.result c.in-Err-Memory.is c.in-Err-Memory.field-0-is c.decode_string_descriptor.ensures.invalid in
    let good : text_of bytes ≡ Ok (text bytes) = ap (λ b. if b then Ok (text bytes) else Err InvalidDescriptor) valid in
    inl (text bytes, ap (option_map (λ r. r >>= text_of)) came ∙ ap Some good, asked)
