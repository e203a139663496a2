-- What acts change of a state: its host, the endpoints by the names under which they are open, and the futures.
use Rattle.std.proofs.Common.{◌≡◌, ◌∙◌, ℕ, ◌<◌, Bool, false, List, [], length, Option, Some, None, inl, inr, refl, ap, sym, subst}
use Rattle.std.specs.Option.{option_map, option_map_or}
use Rattle.std.proofs.lemmas.Option.{slice_get_within, none-some}
use Rattle.usb_kernel.specs.Tickets.{tickets}
use Rattle.usb_xfer.specs.declared.transfer.TransferData.{TransferData}
use Rattle.usb_device_host.specs.HostState.{HostState}
use Rattle.usb_device_host.specs.Controls.{request_started}
use Rattle.usb_device.specs.Futures.{FutureState, fresh_future}
use Rattle.usb_session_calls.specs.Names.{named, freed, set_name}
use Rattle.usb_session_calls.specs.EndpointNames.{EndpointName, Own, OfReader, OfWriter, OfClientWriter, OfClientReader, held_under, endpoint_under}
use Rattle.usb_session_calls.specs.State.{State, Endpoint, Reader, Writer, Client, endpoint_of_reader, endpoint_of_writer, endpoint_of_client_writer, endpoint_of_client_reader}
use Rattle.usb_session_calls.proofs.NameLemmas.{place_of}
use Rattle.usb_session_calls.proofs.EndpointNameLemmas.{cases_name, put_under, under-changes}

-- how many names there are under which endpoints are open: their own, and those of readers, of writers and of clients
pub record NameCounts : Type 0 where
  pub own : ℕ
  pub readers : ℕ
  pub writers : ℕ
  pub clients : ℕ

-- a name is one of so many
abbrev pub IsAmong : NameCounts → EndpointName → Type 0
IsAmong c (Own e) = e < c.own
IsAmong c (OfReader r) = r < c.readers
IsAmong c (OfWriter w) = w < c.writers
IsAmong c (OfClientWriter m) = m < c.clients
IsAmong c (OfClientReader m) = m < c.clients

-- what is open under each name is so under one of so many
pub record View : Type 0 where
  pub host : HostState
  pub opened : EndpointName → Option Endpoint
  pub names : NameCounts
  pub futures : List (Option FutureState)
  pub within : (e : EndpointName) (h : Endpoint) → opened e ≡ Some h → IsAmong names e

pub named-within : {X : Type 0} (xs : List (Option X)) (n : ℕ) (x : X) → named xs n ≡ Some x → n < length xs
named-within xs n x is = slice_get_within xs n (Some x) (place_of xs n x is)

-- what holds an endpoint that is open
held-by : {X Y : Type 0} (f : X → Y) (o : Option X) (y : Y) → option_map f o ≡ Some y → (x : X) × (o ≡ Some x)
held-by f None y is = absurd (none-some y is)
held-by f (Some x) y is = (x, refl)

abbrev pub counts_of : List (Option Endpoint) → List (Option Reader) → List (Option Writer) → List (Option Client) → NameCounts
counts_of es rs ws cs = record { own = length es; readers = length rs; writers = length ws; clients = length cs }

pub among-names : (es : List (Option Endpoint)) (rs : List (Option Reader)) (ws : List (Option Writer)) (cs : List (Option Client)) (e : EndpointName) (h : Endpoint)
    → held_under endpoint_of_reader endpoint_of_writer endpoint_of_client_writer endpoint_of_client_reader es rs ws cs e ≡ Some h → IsAmong (counts_of es rs ws cs) e
among-names es rs ws cs (Own e) h is = named-within es e h is
among-names es rs ws cs (OfReader r) h is = let x = held-by endpoint_of_reader (named rs r) h is in named-within rs r x.0 x.1
among-names es rs ws cs (OfWriter w) h is = let x = held-by endpoint_of_writer (named ws w) h is in named-within ws w x.0 x.1
among-names es rs ws cs (OfClientWriter m) h is = let x = held-by endpoint_of_client_writer (named cs m) h is in named-within cs m x.0 x.1
among-names es rs ws cs (OfClientReader m) h is = let x = held-by endpoint_of_client_reader (named cs m) h is in named-within cs m x.0 x.1

abbrev pub name_counts : State → NameCounts
name_counts state = counts_of state.endpoints state.readers state.writers state.clients

-- of a state
abbrev pub view_of : State → View
view_of state =
    record {
      host = state.host;
      opened = endpoint_under state;
      names = name_counts state;
      futures = state.futures;
      within = among-names state.endpoints state.readers state.writers state.clients;
    }

-- how many tickets there are
abbrev pub tickets_seen : View → ℕ
tickets_seen v = length (tickets v.host.kernel.past)

-- with another host, with a future more, and with one that is open under its name no more
abbrev pub hosted : View → HostState → View
hosted v host = record v { host = host }

abbrev pub future_started : View → ℕ → TransferData → ℕ → ℕ → View
future_started v n request timeout device =
    record v { host = request_started v.host device request timeout; futures = set_name v.futures n (fresh_future v.host request timeout) }

abbrev pub without_future_of : View → HostState → ℕ → View
without_future_of v host n = record v { host = host; futures = freed v.futures n }

-- the tickets that were taken of what is open under a name, and whether a reader or a writer was made of it
abbrev pub taken_in : View → EndpointName → List ℕ
taken_in v e = option_map_or (λ (h : Endpoint). h.taken) (v.opened e) []

abbrev pub streamed_in : View → EndpointName → Bool
streamed_in v e = option_map_or (λ (h : Endpoint). h.was_streamed) (v.opened e) false

-- what is open under the names, with o under one of them
pub put-within : (v : View) (e : EndpointName) (o : Option Endpoint) → ((h : Endpoint) → o ≡ Some h → IsAmong v.names e) → (d : EndpointName) (h : Endpoint) → put_under v.opened e o d ≡ Some h → IsAmong v.names d
put-within v e o within d h is =
    let put = under-changes v.opened e o in
    elim (cases_name d e) [
      | inl same ↦ subst (IsAmong v.names) (sym same) (within h (sym put.here ∙ ap (put_under v.opened e o) (sym same) ∙ is))
      | inr apart ↦ v.within d h (sym (put.others d apart) ∙ is)
    ]

-- and with another host
abbrev pub with_open : (v : View) → HostState → (e : EndpointName) (o : Option Endpoint) → ((h : Endpoint) → o ≡ Some h → IsAmong v.names e) → View
with_open v host e o within = record v { host = host; opened = put_under v.opened e o; within = put-within v e o within }
