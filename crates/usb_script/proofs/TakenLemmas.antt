-- What the device lines among some items take, and the tests of each item.
use Rattle.std.proofs.Common.{◌≡◌, ℕ, ◌==◌, ◌&&◌, ◌||◌, Bool, false, List, [], ◌∷◌, ◌++◌, Option, Some, None, refl, ◌∙◌, sym}
use Rattle.std.proofs.lemmas.List.Elements.{filter_map-append}
use Rattle.std.specs.List.{list_any, cons_option}
use Rattle.std.specs.Option.{option_map_or}
use Rattle.usb_script_lines.specs.declared.item.Item.{Item}
use Rattle.usb_script_lines.specs.declared.item.Item.TheVariants.{Device}
use Rattle.usb_script.specs.declared.order.Taken.{Taken}
use Rattle.usb_script.specs.Order.{has_name, has_bus_address}
use Rattle.usb_script.specs.Taken.{taken_by, taken_of}

any_onto : (p : Taken → Bool) (o : Option Taken) (ts : List Taken) → list_any p (cons_option o ts) ≡ (option_map_or p o false || list_any p ts)
any_onto p None ts = refl
any_onto p (Some t) ts = refl

any_taken : (p : Taken → Bool) (q : Item → Bool) → ((item : Item) → q item ≡ option_map_or p (taken_by item) false) → (items : List Item) → list_any p (taken_of items) ≡ list_any q items
any_taken p q same [] = refl
any_taken p q same (item ∷ items) =
    any_onto p (taken_by item) (taken_of items) ∙ rw (same item, any_taken p q same items) refl

name_by : (name : ℕ) (item : Item) → has_name name item ≡ option_map_or (λ t. t.device == name) (taken_by item) false
name_by name (Device device bus address speed configuration descriptors) = refl
name_by name item = refl

place_by : (bus address : ℕ) (item : Item) → has_bus_address bus address item ≡ option_map_or (λ t. t.bus == bus && t.address == address) (taken_by item) false
place_by bus address (Device device bus' address' speed configuration descriptors) = refl
place_by bus address item = refl

-- a name is taken where a device line has it
pub name-taken : (name : ℕ) (taken : List Taken) (items : List Item) → taken ≡ taken_of items → list_any (λ t. t.device == name) taken ≡ list_any (has_name name) items
name-taken name taken items all = rw all (any_taken (λ t. t.device == name) (has_name name) (name_by name) items)

-- a bus with an address is taken where a device line has them
pub place-taken : (bus address : ℕ) (taken : List Taken) (items : List Item) → taken ≡ taken_of items → list_any (λ t. t.bus == bus && t.address == address) taken ≡ list_any (has_bus_address bus address) items
place-taken bus address taken items all =
    rw all (any_taken (λ t. t.bus == bus && t.address == address) (has_bus_address bus address) (place_by bus address) items)

-- one more item behind these
pub taken-more : (items : List Item) (item : Item) (taken : List Taken) → taken ≡ taken_of items → taken ++ taken_of (item ∷ []) ≡ taken_of (items ++ item ∷ [])
taken-more items item taken all = rw all (sym (filter_map-append taken_by items (item ∷ [])))
