-- A session at its beginning.
use Rattle.std.proofs.Common.{◌≡◌, ℕ, arith, List, [], map, replicate, Option, Some, None, true, false, refl, ap, sym, ◌∙◌, subst}
use Rattle.std.specs.Prelude.{max}
use Rattle.std.specs.Option.{option_map}
use Rattle.std.proofs.lemmas.List.{length-replicate}
use Rattle.std.proofs.lemmas.Option.{none-some}
use Rattle.usb_device_tables.specs.History.{value_at}
use Rattle.usb_kernel_devices.specs.declared.devices.SimDevice.{SimDevice}
use Rattle.usb_kernel.specs.Value.{KernelState}
use Rattle.usb_kernel_devices.specs.Devices.{fresh_device}
use Rattle.usb_enum_sysfs.specs.Tree.{Tree}
use Rattle.usb_enum.specs.declared.hotplug.UdevPacket.{UdevPacket}
use Rattle.usb_session_tree.specs.Trees.{tree_of}
use Rattle.usb_session_tree.specs.Packets.{packets_of}
use Rattle.usb_device_endpoint.specs.EndpointState.{EndpointState}
use Rattle.usb_device_ledger.specs.Entries.{ClaimedInterface, HostEndpoint, HostTicket}
use Rattle.usb_device_host.specs.HostState.{HostState, host_of}
use Rattle.usb_device_host.specs.HostBus.{key_at, owner_at}
use Rattle.usb_device.specs.OwnerLaws.{ClaimsAreOwned}
use Rattle.usb_device.proofs.OwnerLaw.{claims_stay_owned}
use Rattle.usb_session_streams.specs.Accounts.{TicketsAreCounted}
use Rattle.usb_device_host.specs.HandleStates.{InterfaceState}
use Rattle.usb_device.specs.Futures.{FutureState}
use Rattle.usb_script_lines.specs.declared.item.Item.{Item}
use Rattle.usb_script_lines.specs.ItemKinds.{place_count}
use Rattle.usb_session_calls.specs.Names.{named}
use Rattle.usb_io.specs.Readers.{ReaderState}
use Rattle.usb_io.specs.Writers.{WriterState}
use Rattle.usb_msg.specs.Clients.{ClientState}
use Rattle.usb_session_calls.specs.EndpointNames.{EndpointName, Own, OfReader, OfWriter, OfClientWriter, OfClientReader, held_under, endpoint_under}
use Rattle.usb_session_calls.specs.State.{endpoint_of_reader, endpoint_of_writer, endpoint_of_client_writer, endpoint_of_client_reader}
use Rattle.usb_session.specs.Output.{devices_of, start}
use Rattle.usb_session_calls.specs.SessionState.{SessionState, IsSound, open_under}
use Rattle.usb_session_calls.specs.SessionParts.{session_made}
use Rattle.usb_session_calls.specs.Relation.{Represents, session_of}
use Rattle.usb_session_calls.proofs.NameLemmas.{named-replicate}

-- the host at the beginning
larger : (a b : ℕ) → a ≡ 0 → max a b ≡ b
larger a b none = omega arith

pub host-start : (k now : KernelState) (items : List Item) (devices : List (ℕ × SimDevice)) (places : ℕ) → k.past ≡ [] → k.devices ≡ map fresh_device devices → devices ≡ devices_of items → k.clock ≡ 0 → k.armed ≡ [] → k.spare ≡ 0 → now ≡ record k { spare = now.spare } → now.spare ≡ max k.spare places → places ≡ place_count items → host_of now ≡ (start items).host
unfolding start
host-start k now items devices places past known are clock armed none rest spare all =
    let room : now.spare ≡ place_count items = spare ∙ larger k.spare places none ∙ all in
    let simulated = known ∙ ap (map fresh_device) are in
    ap host_of rest ∙ rw (past, simulated, clock, armed, room) refl

-- the beginning
nobody : {X : Type 0} (n e : ℕ) (x : X) → named (replicate n None) e ≡ Some x → ⊥
nobody {X} n e x is = none-some x (sym (named-replicate n e) ∙ is)

module _ {E R W C : Type 0} (of_reader : R → E) (of_writer : W → E) (of_client_writer of_client_reader : C → E) (n : ℕ) where
  none-held : (e : EndpointName) → held_under of_reader of_writer of_client_writer of_client_reader (replicate n None) (replicate n None) (replicate n None) (replicate n None) e ≡ None
  none-held (Own e) = named-replicate n e
  none-held (OfReader r) = ap (option_map of_reader) (named-replicate n r)
  none-held (OfWriter w) = ap (option_map of_writer) (named-replicate n w)
  none-held (OfClientWriter m) = ap (option_map of_client_writer) (named-replicate n m)
  none-held (OfClientReader m) = ap (option_map of_client_reader) (named-replicate n m)

pub none-start : (items : List Item) (e : EndpointName) → endpoint_under (start items) e ≡ None
unfolding start
none-start items e = none-held endpoint_of_reader endpoint_of_writer endpoint_of_client_writer endpoint_of_client_reader 64 e

pub no-future_start : (items : List Item) (n : ℕ) → named (start items).futures n ≡ None
unfolding start
no-future_start items n = named-replicate 64 n

-- a session with nothing open
abbrev pub empty_session : Tree → List UdevPacket → HostState → SessionState
empty_session t p host = session_made t p host (replicate 64 None) (replicate 64 None) (replicate 64 None) (replicate 64 None) (replicate 64 None) (replicate 64 None) (replicate 64 None)

none-under : (t : Tree) (p : List UdevPacket) (host : HostState) (e : EndpointName) (h : EndpointState) → open_under (empty_session t p host) e ≡ Some h → ⊥
none-under t p host e h is = none-some h (sym (none-held (λ (x : ReaderState). x.endpoint) (λ (x : WriterState). x.endpoint) (λ (x : ClientState). x.writer.endpoint) (λ (x : ClientState). x.reader.endpoint) 64 e) ∙ is)

empty-sound : (t : Tree) (p : List UdevPacket) (host : HostState) → host.steps ≡ [] → host.interfaces ≡ [] → host.devices ≡ [] → host.endpoints ≡ [] → host.tickets ≡ [] → TicketsAreCounted host → ClaimsAreOwned host → IsSound (empty_session t p host)
empty-sound t p host idle none nothing closed unheld counted owned =
    record {
      idle = idle;
      device_names = length-replicate {A = Option ℕ} 64 None;
      interface_names = length-replicate {A = Option InterfaceState} 64 None;
      endpoint_names = length-replicate {A = Option EndpointState} 64 None;
      reader_names = length-replicate {A = Option ReaderState} 64 None;
      writer_names = length-replicate {A = Option WriterState} 64 None;
      client_names = length-replicate {A = Option ClientState} 64 None;
      devices_stand = λ d key is. absurd (nobody 64 d key is);
      devices_counted = λ key o at. absurd (none-some o (sym (ap (λ ds. value_at ds key) nothing) ∙ at));
      devices_held = record {
        held = λ key o at. absurd (none-some o (sym (ap (λ ds. value_at ds key) nothing) ∙ at));
        counted = λ key o at. absurd (none-some o (sym (ap (λ ds. value_at ds key) nothing) ∙ at));
        there = λ i c at some. absurd (none-some c (sym (ap (λ (l : List (Option ClaimedInterface)). value_at l i) none) ∙ at));
      };
      interfaces_stand = λ i f is. absurd (nobody 64 i f is);
      interfaces_counted = λ key c at. absurd (none-some c (sym (ap (λ (l : List (Option ClaimedInterface)). value_at l key) none) ∙ at));
      endpoints_stand = λ e h is. absurd (none-under t p host e h is);
      endpoints_small = λ e h is. absurd (none-under t p host e h is);
      endpoints_differ = λ d e g h isg ish apart. absurd (none-under t p host d g isg);
      keys_named = λ key open_. let no_ : false ≡ true = sym (ap (λ (es : List (Option HostEndpoint)). key_at es key) closed) ∙ open_ in absurd (cc);
      future_names = length-replicate {A = Option FutureState} 64 None;
      futures_wait = λ n f is. absurd (nobody 64 n f is);
      futures_stand = λ n f is. absurd (nobody 64 n f is);
      futures_differ = λ m n f g isf isg apart. absurd (nobody 64 m f isf);
      futures_apart = λ e n h f ish isf. absurd (nobody 64 n f isf);
      tickets_named = λ k key own. absurd (none-some key (sym (ap (λ (l : List HostTicket). owner_at l k) unheld) ∙ own));
      tickets_counted = counted;
      claims_owned = owned;
    }

made-empty : (t : Tree) (p : List UdevPacket) (host : HostState) (ds : List (Option ℕ)) (is : List (Option InterfaceState)) (es : List (Option EndpointState)) (rs : List (Option ReaderState)) (ws : List (Option WriterState)) (cs : List (Option ClientState)) (fs : List (Option FutureState)) → ds ≡ replicate 64 None → is ≡ replicate 64 None → es ≡ replicate 64 None → rs ≡ replicate 64 None → ws ≡ replicate 64 None → cs ≡ replicate 64 None → fs ≡ replicate 64 None → session_made t p host ds is es rs ws cs fs ≡ empty_session t p host
made-empty t p host ds is es rs ws cs fs d i e q w g f = rw (d, i, e, q, w, g, f) refl

start-steps : (items : List Item) → (start items).host.steps ≡ []
unfolding start
start-steps items = refl

start-interfaces : (items : List Item) → (start items).host.interfaces ≡ []
unfolding start
start-interfaces items = refl

start-devices : (items : List Item) → (start items).host.devices ≡ []
unfolding start
start-devices items = refl

start-endpoints : (items : List Item) → (start items).host.endpoints ≡ []
unfolding start
start-endpoints items = refl

start-tickets : (items : List Item) → (start items).host.tickets ≡ []
unfolding start
start-tickets items = refl

start-counted : (items : List Item) → TicketsAreCounted (start items).host
unfolding start
start-counted items = refl

start-owned : (items : List Item) → ClaimsAreOwned (start items).host
unfolding start
start-owned items = claims_stay_owned.start (start items).host.kernel (claims_stay_owned.fresh (devices_of items))

pub sound-start : (items : List Item) (t : Tree) (p : List UdevPacket) (host : HostState) (ds : List (Option ℕ)) (is : List (Option InterfaceState)) (es : List (Option EndpointState)) (rs : List (Option ReaderState)) (ws : List (Option WriterState)) (cs : List (Option ClientState)) (fs : List (Option FutureState)) → host ≡ (start items).host → ds ≡ replicate 64 None → is ≡ replicate 64 None → es ≡ replicate 64 None → rs ≡ replicate 64 None → ws ≡ replicate 64 None → cs ≡ replicate 64 None → fs ≡ replicate 64 None → IsSound (session_made t p host ds is es rs ws cs fs)
sound-start items t p host ds is es rs ws cs fs start_ d i e q w g f =
    subst IsSound (sym (made-empty t p host ds is es rs ws cs fs d i e q w g f)) (empty-sound t p host (ap (λ (h : HostState). h.steps) start_ ∙ start-steps items) (ap (λ (h : HostState). h.interfaces) start_ ∙ start-interfaces items) (ap (λ (h : HostState). h.devices) start_ ∙ start-devices items) (ap (λ (h : HostState). h.endpoints) start_ ∙ start-endpoints items) (ap (λ (h : HostState). h.tickets) start_ ∙ start-tickets items) (subst TicketsAreCounted (sym start_) (start-counted items)) (subst ClaimsAreOwned (sym start_) (start-owned items)))

empty-start : (items : List Item) → empty_session (tree_of items) (packets_of items) (start items).host ≡ session_of (start items)
unfolding start
empty-start items = refl

pub represents-start : (items : List Item) (t : Tree) (p : List UdevPacket) (host : HostState) (ds : List (Option ℕ)) (is : List (Option InterfaceState)) (es : List (Option EndpointState)) (rs : List (Option ReaderState)) (ws : List (Option WriterState)) (cs : List (Option ClientState)) (fs : List (Option FutureState)) → host ≡ (start items).host → ds ≡ replicate 64 None → is ≡ replicate 64 None → es ≡ replicate 64 None → rs ≡ replicate 64 None → ws ≡ replicate 64 None → cs ≡ replicate 64 None → fs ≡ replicate 64 None → t ≡ tree_of items → p ≡ packets_of items → Represents (session_made t p host ds is es rs ws cs fs) (start items)
represents-start items t p host ds is es rs ws cs fs start_ d i e q w g f known left =
    made-empty t p host ds is es rs ws cs fs d i e q w g f ∙ ap (empty_session t p) start_ ∙ ap (λ s. empty_session s p (start items).host) known
    ∙ ap (λ l. empty_session (tree_of items) l (start items).host) left ∙ empty-start items

spare-of_start : (items : List Item) → (start items).host.kernel.spare ≡ place_count items
unfolding start
spare-of_start items = refl

pub spare-start : (items : List Item) (host : HostState) (places : ℕ) → host ≡ (start items).host → places ≡ place_count items → host.kernel.spare ≡ places
spare-start items host places start_ all = ap (λ (h : HostState). h.kernel.spare) start_ ∙ spare-of_start items ∙ sym all
