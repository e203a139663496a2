-- Lemmas on device descriptors.
use Rattle.std.proofs.Common.{◌≡◌, ◌≢◌, ℕ, ◌<◌, ◌≤◌, cond, true, false, List, length, take, refl, sym, ◌∙◌, ap, arith, get_or, get_or-take, Some, None}
use Rattle.std.specs.Prelude.{◌&&◌, nat_le}
use Rattle.std.specs.Array.{IsFirstChunk}
use Rattle.std.proofs.lemmas.Bool.{lt-leb, le-leb, eq-eqb, ne_eqb}
use Rattle.std.proofs.lemmas.List.{length-take-le}
use Rattle.usb_desc.specs.Bytes.{length_field, type_field}
use Rattle.usb_desc.specs.Configurations.{device_of}
use Rattle.usb_desc.specs.Forms.{IsDevice}

-- none stands in fewer bytes
pub device_few : (bytes : List ℕ) → length bytes < 18 → device_of bytes ≡ None
device_few bytes few = rw (lt-leb 18 (length bytes) few) refl

-- the first 18 bytes have the fields of them all
chunk_at : (bytes chunk : List ℕ) (offset : ℕ) → IsFirstChunk bytes chunk 18 → offset < 18 → get_or bytes offset 0 ≡ get_or chunk offset 0
chunk_at bytes chunk offset first low = sym (get_or-take 18 bytes offset 0 low) ∙ ap (λ xs. get_or xs offset 0) (sym first.same)

-- none stands where the first byte counts fewer, or the second is another
pub device_short : (bytes chunk : List ℕ) (first : ℕ) → IsFirstChunk bytes chunk 18 → first ≡ get_or chunk 0 0 → first < 18 → device_of bytes ≡ None
device_short bytes chunk first is read short =
    let low : length_field bytes < 18 = rw (chunk_at bytes chunk 0 is (omega arith), sym read) short in
    rw (le-leb 18 (length bytes) is.enough, lt-leb 18 (length_field bytes) low) refl

pub device_other : (bytes chunk : List ℕ) → IsFirstChunk bytes chunk 18 → get_or chunk 1 0 ≢ 1 → device_of bytes ≡ None
device_other bytes chunk is other =
    let apart : type_field bytes ≢ 1 = λ same. other (sym (chunk_at bytes chunk 1 is (omega arith)) ∙ same) in
    rw (ne_eqb (type_field bytes) 1 apart) (elim (nat_le 18 (length bytes) && nat_le 18 (length_field bytes)) as (λ v. cond (v && false) (Some (take 18 bytes)) None ≡ None) [ true ↦ refl | false ↦ refl ])

-- else one does
pub device_form : (bytes chunk : List ℕ) (first : ℕ) → IsFirstChunk bytes chunk 18 → first ≡ get_or chunk 0 0 → 18 ≤ first → get_or chunk 1 0 ≡ 1 → IsDevice chunk
device_form bytes chunk first is read long type =
    record {
      type = type;
      long_enough = omega (arith, read);
      whole = ap length is.same ∙ length-take-le 18 bytes is.enough;
    }

pub device_there : (bytes chunk : List ℕ) (first : ℕ) → IsFirstChunk bytes chunk 18 → first ≡ get_or chunk 0 0 → 18 ≤ first → get_or chunk 1 0 ≡ 1 → Some chunk ≡ device_of bytes
device_there bytes chunk first is read long type =
    let long_enough : 18 ≤ length_field bytes = rw (chunk_at bytes chunk 0 is (omega arith), sym read) long in
    let its_type : type_field bytes ≡ 1 = chunk_at bytes chunk 1 is (omega arith) ∙ type in
    rw (le-leb 18 (length bytes) is.enough, le-leb 18 (length_field bytes) long_enough, eq-eqb (type_field bytes) 1 its_type) (ap (λ (xs : List ℕ). Some xs) is.same)
