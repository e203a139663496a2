-- Numbers of interfaces have 8 bits.
use Rattle.std.proofs.Common.{◌≡◌, ℕ, ◌<◌, Bool, true, false, cond, List, [], ◌∷◌, Option, Some, None, Result, Ok, Err, refl, ap, ◌∙◌, arith}
use Rattle.std.specs.Prelude.{◌==◌, ◌&&◌, nat_lt, codes}
use Rattle.std.specs.Str.{trim}
use Rattle.std.specs.Str.Parse.{digits_value, without_leading_plus}
use Rattle.std.specs.List.{filter_map, cons_option, list_any, All}
use Rattle.std.specs.Result.{result_ok}
use Rattle.std.proofs.lemmas.Bool.{and_parts}
use Rattle.std.proofs.lemmas.Bool.Decides.{nat_tests}
use Rattle.std.proofs.lemmas.List.Elements.{All-nil, All-cons}
use Rattle.std.proofs.lemmas.Option.{same_Some}
use Rattle.usb_error.specs.Outcomes.{◌>>=◌}
use Rattle.usb_enum_sysfs.specs.Attributes.{attribute, value_of, value_or, string}
use Rattle.usb_enum_sysfs.specs.Numbers.{number, is_numeral, hex_byte, without_prefix}
use Rattle.usb_enum_sysfs.specs.Paths.{path_in}
use Rattle.usb_enum_sysfs.specs.Tree.{Tree, text_at}
use Rattle.usb_enum_sysfs.specs.declared.sysfs.SysfsError.{SysfsError}
use Rattle.usb_enum.specs.Devices.{InterfaceFacts}
use Rattle.usb_enum.specs.Probing.{interface, interface_in}

-- a number that is read is below its limit
pub number_below : (radix limit : ℕ) (text : List ℕ) (n : ℕ) → number radix limit text ≡ Some n → n < limit
unfolding number
number_below radix limit text n read = by (is_numeral radix digits && nat_lt (digits_value radix digits) limit) refl read
  where
    digits : List ℕ
    digits = without_leading_plus text

    by : (b : Bool) → (is_numeral radix digits && nat_lt (digits_value radix digits) limit) ≡ b → cond b (Some (digits_value radix digits)) None ≡ Some n → n < limit
    by false e read = cc
    by true e read =
        let small = (and_parts (is_numeral radix digits) (nat_lt (digits_value radix digits) limit) e).1 in
        let same : digits_value radix digits ≡ n = cc in
        let below : digits_value radix digits < limit = grind (arith, nat_tests) in
        omega arith

value_below : (parse : List ℕ → Option ℕ) (limit : ℕ) → ((text : List ℕ) (n : ℕ) → parse text ≡ Some n → n < limit) → (path : List ℕ) (r : Result (List ℕ) ℕ) (n : ℕ) → value_of parse path r ≡ Ok n → n < limit
value_below parse limit small path (Err errno) n e = cc
value_below parse limit small path (Ok text) n e = by (parse (trim text)) refl e
  where
    by : (o : Option ℕ) → parse (trim text) ≡ o → value_or path text o ≡ Ok n → n < limit
    by None p e = cc
    by (Some m) p e = let same : m ≡ n = cc in small (trim text) n (p ∙ ap Some same)

-- an interface has the number of its first attribute
number_kept : (n : ℕ) (b c d : Result ℕ SysfsError) (name : Option (List ℕ)) (i : InterfaceFacts) → result_ok (b >>= λ class. c >>= λ subclass. d >>= λ protocol. Ok (record { number = n; class = class; subclass = subclass; protocol = protocol; name = name })) ≡ Some i → n ≡ i.number
number_kept n (Err x) c d name i e = cc
number_kept n (Ok k) (Err x) d name i e = cc
number_kept n (Ok k) (Ok s) (Err x) name i e = cc
number_kept n (Ok k) (Ok s) (Ok p) name i e = ap (λ (j : InterfaceFacts). j.number) (same_Some _ _ e)

interface_below : (t : Tree) (folder : List ℕ) (i : InterfaceFacts) → result_ok (interface t folder) ≡ Some i → i.number < 256
interface_below t folder i e = by (attribute hex_byte t folder (codes "bInterfaceNumber")) refl e
  where
    by : (a : Result ℕ SysfsError) → attribute hex_byte t folder (codes "bInterfaceNumber") ≡ a → result_ok (a >>= λ number. attribute hex_byte t folder (codes "bInterfaceClass") >>= λ class. attribute hex_byte t folder (codes "bInterfaceSubClass") >>= λ subclass. attribute hex_byte t folder (codes "bInterfaceProtocol") >>= λ protocol. Ok (record { number = number; class = class; subclass = subclass; protocol = protocol; name = string t folder (codes "interface") })) ≡ Some i → i.number < 256
    by (Err x) p e = cc
    by (Ok n) p e =
        let small : n < 256 = value_below hex_byte 256 (λ text m read. number_below 16 256 (without_prefix text) m read) (path_in folder (codes "bInterfaceNumber")) (text_at t (path_in folder (codes "bInterfaceNumber"))) n p in
        let same : n ≡ i.number = number_kept n (attribute hex_byte t folder (codes "bInterfaceClass")) (attribute hex_byte t folder (codes "bInterfaceSubClass")) (attribute hex_byte t folder (codes "bInterfaceProtocol")) (string t folder (codes "interface")) i e in
        omega arith

-- the numbers of interfaces have 8 bits
pub interfaces_below : (t : Tree) (folder : List ℕ) (names : List (List ℕ)) → All (λ i. i.number < 256) (filter_map (interface_in t folder) names)
interfaces_below t folder [] = All-nil (λ i. i.number < 256)
interfaces_below t folder (name ∷ names) = by (interface_in t folder name) refl (interfaces_below t folder names)
  where
    within : (b : Bool) (i : InterfaceFacts) → cond b (result_ok (interface t (path_in folder name))) None ≡ Some i → i.number < 256
    within true i e = interface_below t (path_in folder name) i e
    within false i e = cc

    by : (o : Option InterfaceFacts) → interface_in t folder name ≡ o → All (λ i. i.number < 256) (filter_map (interface_in t folder) names) → All (λ i. i.number < 256) (cons_option o (filter_map (interface_in t folder) names))
    by None p rest = rest
    by (Some i) p rest = All-cons (λ i. i.number < 256) i _ (within (list_any (λ b. b == 58) name) i p) rest
