-- The tickets of a client of messages say what a response did.
use Rattle.std.proofs.Common.{◌∙◌, ◌≡◌, ℕ, ◌+◌, ◌-◌, ◌<◌, ◌≤◌, arith, Bool, true, false, List, [], ◌∷◌, ◌++◌, length, length-append, append-nil, append_assoc, take, drop, map, Option, Some, None, Result, Ok, Err, refl, ap, sym, subst}
use Rattle.std.specs.Prelude.{nat_lt, nat_le, min}
use Rattle.std.specs.Int.{w32, to_le_bytes}
use Rattle.std.proofs.lemmas.Bool.{or_parts, leb-false}
use Rattle.std.proofs.lemmas.List.{length-take, take-append-drop}
use Rattle.std.proofs.lemmas.Slice.Eq.{bytes_eq-Decides}
use Rattle.usb_kernel.specs.declared.event.Event.{Event}
use Rattle.usb_kernel.specs.Legal.{IsLawful}
use Rattle.usb_kernel.specs.Tickets.{tickets}
use Rattle.usb_device_endpoint.specs.EndpointState.{EndpointState}
use Rattle.usb_device_host.specs.HostState.{HostState}
use Rattle.usb_device_host.specs.HostCalls.{host_calls}
use Rattle.usb_io.specs.Answers.{fill_came, handed_over, read_came}
use Rattle.usb_io.specs.Following.{Follows}
use Rattle.usb_io.specs.Carried.{WriterHistory}
use Rattle.usb_io.specs.Readers.{ReaderState, without_end, is_end}
use Rattle.usb_io.specs.Reads.{Reading}
use Rattle.usb_io.specs.Streams.{Mark, Byte}
use Rattle.usb_io.specs.declared.fault.ReadFault.{ReadFault}
use Rattle.usb_msg.specs.Clients.{ClientState}
use Rattle.usb_msg.specs.Errors.{ended_by_read}
use Rattle.usb_msg.specs.Frames.{framed, has_tag, tag_in, body_in}
use Rattle.usb_msg.specs.Histories.{ClientHistory, Keeps}
use Rattle.usb_msg.specs.Requests.{Messaging, Message, messaging}
use Rattle.usb_msg.specs.Responses.{reading_of, piece_by, piece_came, without_message, by_tag, by_length, responded_by}
use Rattle.usb_msg.specs.declared.error.Ending.{Ending}
use Rattle.usb_msg.specs.declared.error.Ending.TheVariants as ending
use Rattle.usb_msg.proofs.KeepLemmas.{lawful-before}
use Rattle.usb_msg.proofs.Responding.{responds}
use Rattle.usb_msg.proofs.Steps.{later_keeps, piece_keeps, taken_keeps, refused_keeps, ends_keeps}
use Rattle.usb_session_streams.specs.ReaderCalls.{ReaderGoesOn, given_by}
use Rattle.usb_session_streams.specs.Framed.{GoesOnToFollow}
use Rattle.usb_session_streams.specs.Numbers.{numbers_from}
use Rattle.usb_session_streams.specs.ClientNeeds.{bars_response}
use Rattle.usb_session_streams.specs.ClientCalls.{Response, ClientGoesOn, told_of}
use Rattle.usb_session_streams.specs.ClientTickets.{IsMessaging, KeepsTaking, TakesOn, count_at}
use Rattle.usb_session_streams.proofs.ClientsGoOn.{by-goes, start-goes}
use Rattle.usb_session_streams.proofs.FramedCalls.{framed_read_follows}
use Rattle.usb_session_streams.proofs.Messaging.{is-read, is-told, is-ended}
use Rattle.usb_session_streams.proofs.ReadsGoOn.{read_goes_on}
use Rattle.usb_session_streams.proofs.RequestsTake.{takes-none}
use Rattle.usb_session_streams.proofs.TicketCounts.{more-tickets, none-came, came-on}

-- a response that is not barred is to come
is-due : (w : Messaging HostState) → bars_response w ≡ false → w.client.responses < w.client.requests
is-due w free = leb-false w.client.requests w.client.responses (or_parts (nat_le w.client.requests w.client.responses) _ free).0

-- a read gives no more bytes than were asked for
few-handed : (most : ℕ) (a : Result (List ℕ) ReadFault) (v : Reading HostState) → length (given_by (handed_over most a v).answer) ≤ most
few-handed most (Ok bytes) v = let len = length-take (min most (length bytes)) bytes in omega (arith, len)
few-handed most (Err f) v = omega arith

few-read : (timeout most : ℕ) (w : Reading HostState) → length (given_by (read_came host_calls true timeout most w).answer) ≤ most
few-read timeout most w = let a = fill_came host_calls true timeout w in few-handed most a.answer a.left

-- a message with a tag is the frame of its body
tag-frame : (tag : ℕ) (message : List ℕ) → has_tag tag message ≡ true → message ≡ framed tag (body_in message)
tag-frame tag message is =
    let same : take 4 message ≡ to_le_bytes w32 tag = (bytes_eq-Decides (take 4 message) (to_le_bytes w32 tag)).0 is in
    sym (take-append-drop 4 message) ∙ ap (λ (bytes : List ℕ). bytes ++ drop 4 message) same

-- the client with another reader and with these bytes of a frame
abbrev reading_on : ClientState → ReaderState → List ℕ → ClientState
reading_on c r frame = record c { reader = r; frame = frame }

-- a history in which the reader took these tickets, and consumed so much
abbrev read_so : ClientHistory → List ℕ → List Mark → ClientHistory
read_so h taken consumed = record h { read = record { taken = taken; consumed = consumed } }

-- what the reads of a message went on to take
record Along (old v : Messaging HostState) (h : ClientHistory) : Type 0 where
  goes : ClientGoesOn Response old v
  rest : v.client ≡ reading_on old.client v.client.reader v.client.frame
  few : length v.client.frame ≤ 4101
  taken : List ℕ
  tickets : taken ++ v.client.reader.endpoint.pending ≡ old.client.reader.endpoint.pending ++ numbers_from (count_at old) (count_at v - count_at old)
  consumed : List Mark
  keeps : Keeps v.bus.kernel.past v.client (read_so h (h.read.taken ++ taken) consumed)

-- so they do where the journal is lawful then
record Reads (old : Messaging HostState) (h : ClientHistory) (v : Messaging HostState) : Type 0 where
  goes : ClientGoesOn Response old v
  along : IsLawful v.bus.kernel.past → Along old v h

module _ (old : Messaging HostState) (h : ClientHistory) (going : old.client.ended ≡ None) (input : 128 ≤ old.client.reader.endpoint.address) where
  start-reads : Keeps old.bus.kernel.past old.client h → length old.client.frame ≤ 4101 → Reads old h old
  start-reads k few =
      record {
        goes = start-goes old;
        along = λ lawful.
            record {
              goes = start-goes old;
              rest = refl;
              few = few;
              taken = [];
              tickets = none-came (count_at old) old.client.reader.endpoint.pending;
              consumed = h.read.consumed;
              keeps = subst (λ (ts : List ℕ). Keeps old.bus.kernel.past old.client (read_so h ts h.read.consumed)) (sym (append-nil h.read.taken)) k;
            };
      }

  -- one read more
  module _ (w : Messaging HostState) (so_far : Along old w h) (r : Reading HostState) (bytes : List ℕ) (few : length (w.client.frame ++ bytes) ≤ 4101) (goes : ReaderGoesOn (reading_of w) r) (on : GoesOnToFollow (reading_of w) r (record { taken = h.read.taken ++ so_far.taken; consumed = so_far.consumed }) bytes) where
    abbrev v : Messaging HostState
    v = messaging r.bus (reading_on w.client r.reader (w.client.frame ++ bytes))

    abbrev taken : List ℕ
    taken = so_far.taken ++ on.taken

    read-along : ClientGoesOn Response old v → Along old v h
    read-along all =
        let ended : w.client.ended ≡ None = ap (λ (c : ClientState). c.ended) so_far.rest ∙ going in
        let past = r.bus.kernel.past in
        let later = later_keeps w.bus.kernel.past past w.client _ goes.past so_far.keeps in
        let same : (h.read.taken ++ so_far.taken) ++ on.taken ≡ h.read.taken ++ taken = append_assoc h.read.taken so_far.taken on.taken in
        let follows = subst (λ (ts : List ℕ). Follows past r.reader (record { taken = ts; consumed = so_far.consumed ++ map Byte bytes })) same on.follows in
        record {
          goes = all;
          rest = ap (λ (c : ClientState). reading_on c r.reader (w.client.frame ++ bytes)) so_far.rest;
          few = few;
          taken = taken;
          tickets =
              came-on (count_at old) (count_at w) (length (tickets past)) old.client.reader.endpoint.pending w.client.reader.endpoint.pending r.reader.endpoint.pending so_far.taken on.taken
              (more-tickets old.bus.kernel.past w.bus.kernel.past so_far.goes.1.past) (more-tickets w.bus.kernel.past past goes.past) so_far.tickets (sym on.came);
          consumed = so_far.consumed ++ map Byte bytes;
          keeps = piece_keeps past w.client (read_so h (h.read.taken ++ so_far.taken) so_far.consumed) bytes (h.read.taken ++ taken) r.reader ended later follows;
        }

  by-reads : (w : Messaging HostState) (a : Result (List ℕ) ReadFault) (r : Reading HostState) → Reads old h w → length w.client.frame ≤ 4100 → length (given_by a) ≤ 4101 - length w.client.frame → ReaderGoesOn (reading_of w) r
      → (IsLawful r.bus.kernel.past → (so_far : Along old w h) → GoesOnToFollow (reading_of w) r (record { taken = h.read.taken ++ so_far.taken; consumed = so_far.consumed }) (given_by a)) → Reads old h (piece_by w.client a r).left
  by-reads w (Ok bytes) r reads few most goes follow =
      let all = by-goes old w (Ok bytes) r reads.goes goes in
      let len = length-append w.client.frame bytes in
      record {
        goes = all;
        along = λ lawful.
            let so_far = reads.along (lawful-before w.bus.kernel.past r.bus.kernel.past goes.past lawful) in
            read-along w so_far r bytes (omega (arith, len, few, most)) goes (follow lawful so_far) all;
      }
  by-reads w (Err f) r reads few most goes follow =
      let all = by-goes old w (Err f) r reads.goes goes in
      record {
        goes = all;
        along = λ lawful.
            let so_far = reads.along (lawful-before w.bus.kernel.past r.bus.kernel.past goes.past lawful) in
            let none = append-nil w.client.frame in
            subst (λ (frame : List ℕ). Along old (messaging r.bus (reading_on w.client r.reader frame)) h) none
            (read-along w so_far r [] (let len = ap length none in omega (arith, len, few)) goes (follow lawful so_far) (all.0, all.1));
      }

  piece-reads : (w : Messaging HostState) → length w.client.frame ≤ 4100 → Reads old h w → Reads old h (piece_came host_calls w).left
  piece-reads w few reads =
      let r = w.client.reader in
      let most = 4101 - length w.client.frame in
      let a = read_came host_calls true r.timeout most (reading_of w) in
      let address : r.endpoint.address ≡ old.client.reader.endpoint.address = ap (λ (e : EndpointState). e.address) reads.goes.1.endpoint in
      by-reads w a.answer a.left reads few (few-read r.timeout most (reading_of w)) (read_goes_on true r.timeout most (reading_of w))
      (λ lawful so_far. framed_read_follows r.timeout most (reading_of w) (omega (arith, address, input)) lawful (record { taken = h.read.taken ++ so_far.taken; consumed = so_far.consumed }) so_far.keeps.follows)

-- what comes of the reads
module _ (w : Messaging HostState) (sent received : List ℕ) (asked told : List (List ℕ)) (k : KeepsTaking w.bus.kernel.past w.client sent received asked told) (due : w.client.responses < w.client.requests) (going : w.client.ended ≡ None) where
  module _ (v : Messaging HostState) (so_far : Along w v k.history) where
    abbrev past : List Event
    past = v.bus.kernel.past

    abbrev h : ClientHistory
    h = read_so k.history (k.history.read.taken ++ so_far.taken) so_far.consumed

    is-along : IsMessaging v.client
    is-along =
        let goes = so_far.goes.1 in
        let address : v.client.reader.endpoint.address ≡ w.client.reader.endpoint.address = ap (λ (e : EndpointState). e.address) goes.endpoint in
        subst IsMessaging (sym so_far.rest) (is-read w.client k.is v.client.reader v.client.frame goes.settings address so_far.few)

    going-along : v.client.ended ≡ None
    going-along = ap (λ (c : ClientState). c.ended) so_far.rest ∙ going

    -- the client is so then (c'), and it told these bodies
    left-takes : (c' : ClientState) (h' : ClientHistory) (bodies : List (List ℕ)) → IsMessaging c' → c'.reader.endpoint ≡ v.client.reader.endpoint → h'.written ≡ h.written → h'.read.taken ≡ h.read.taken → h'.requests ≡ h.requests
        → h'.responses ≡ h.responses ++ bodies → Keeps past c' h' → TakesOn Response w (messaging v.bus c') sent received (asked ++ []) (told ++ bodies)
    left-takes c' h' bodies is endpoint written taken requests responses keeps =
        record {
          taken = so_far.taken;
          tickets = ap (λ (e : EndpointState). so_far.taken ++ e.pending) endpoint ∙ so_far.tickets;
          keeps = record {
            is = is;
            history = h';
            sent_is = ap (λ (x : WriterHistory). x.taken) written ∙ k.sent_is;
            received_is = taken ∙ ap (λ (ts : List ℕ). ts ++ so_far.taken) k.received_is;
            asked_is = requests ∙ k.asked_is ∙ sym (append-nil asked);
            told_is = responses ∙ ap (λ (bs : List (List ℕ)). bs ++ bodies) k.told_is;
            keeps = keeps;
          };
        }

    -- it ended, or goes on
    ended-takes : (e : Option Ending) → TakesOn Response w (messaging v.bus (record v.client { ended = e })) sent received (asked ++ []) (told ++ [])
    ended-takes e = left-takes _ h [] (is-ended v.client is-along e going-along) refl refl refl refl (sym (append-nil h.responses)) (ends_keeps past v.client h e going-along so_far.keeps)

    -- the message that came is taken off
    module _ (end : is_end v.client.reader ≡ true) where
      is-off : IsMessaging (without_message v.client)
      is-off = is-read v.client is-along (without_end v.client.reader) [] (record { n = refl; size = refl; timeout = refl }) refl (omega arith)

      refused-takes : (why : Ending) → TakesOn Response w (messaging v.bus (record (without_message v.client) { ended = Some why })) sent received (asked ++ []) (told ++ [])
      refused-takes why =
          left-takes _ _ [] (is-ended (without_message v.client) is-off (Some why) going-along) refl refl refl refl (sym (append-nil h.responses)) (refused_keeps past v.client h why end so_far.keeps)

      told-takes : has_tag v.client.responses v.client.frame ≡ true → TakesOn Response w (messaging v.bus (record (without_message v.client) { responses = v.client.responses + 1 })) sent received (asked ++ []) (told ++ body_in v.client.frame ∷ [])
      told-takes is =
          let responses = ap (λ (c : ClientState). c.responses) so_far.rest in
          let requests = ap (λ (c : ClientState). c.requests) so_far.rest in
          let more : v.client.responses < v.client.requests = omega (arith, responses, requests, due) in
          left-takes _ _ (body_in v.client.frame ∷ []) (is-told (without_message v.client) is-off more) refl refl refl refl refl
          (taken_keeps past v.client h (body_in v.client.frame) going-along end more (tag-frame v.client.responses v.client.frame is) so_far.keeps)

      tag-takes : (b : Bool) → has_tag v.client.responses v.client.frame ≡ b
          → TakesOn Response w (messaging v.bus (by_tag b v.client.frame (without_message v.client)).left) sent received (asked ++ []) (told ++ told_of (by_tag b v.client.frame (without_message v.client)).answer)
      tag-takes true is = told-takes is
      tag-takes false is = refused-takes (ending.WrongTag v.client.responses (tag_in v.client.frame))

      length-takes : (b : Bool)
          → TakesOn Response w (messaging v.bus (by_length b v.client.frame (without_message v.client)).left) sent received (asked ++ []) (told ++ told_of (by_length b v.client.frame (without_message v.client)).answer)
      length-takes true = refused-takes (ending.Short (length v.client.frame))
      length-takes false = tag-takes (has_tag v.client.responses v.client.frame) refl

pub response-takes : (why : Option Ending) (w : Messaging HostState) (sent received : List ℕ) (asked told : List (List ℕ)) → w.client.ended ≡ why → bars_response w ≡ false → IsLawful (responded_by host_calls why w).left.bus.kernel.past → KeepsTaking w.bus.kernel.past w.client sent received asked told
    → TakesOn Response w (responded_by host_calls why w).left sent received (asked ++ []) (told ++ told_of (responded_by host_calls why w).answer)
response-takes (Some why) w sent received asked told is free lawful k = takes-none Response w sent received asked told k
response-takes None w sent received asked told going free lawful k =
    let h = k.history in
    let due = is-due w free in
    responds host_calls (Reads w h) (piece-reads w h going k.is.inp)
    (λ (a : Message (List ℕ) HostState). IsLawful a.left.bus.kernel.past → TakesOn Response w a.left sent received (asked ++ []) (told ++ told_of a.answer))
    (λ v end reads here. length-takes w sent received asked told k due going v (reads.along here) end (nat_lt (length v.client.frame) 4))
    (λ v reads here. ended-takes w sent received asked told k due going v (reads.along here) (Some ending.TooLong))
    (λ v f reads here. ended-takes w sent received asked told k due going v (reads.along here) (ended_by_read f))
    w (start-reads w h going k.is.inp k.keeps k.is.client.within) lawful
