-- A client of messages keeps what its tickets say, over each of its calls.
use Rattle.std.proofs.Common.{refl}
use Rattle.usb_msg.specs.Histories.{nothing_done}
use Rattle.usb_msg.proofs.Steps.{fresh_keeps, later_keeps}
use Rattle.usb_session_streams.specs.ClientCalls.{Request, Response}
use Rattle.usb_session_streams.specs.ClientTickets.{FreshClientsKeep, LaterClientsKeep, ClientCallsKeep}
use Rattle.usb_session_streams.proofs.Messaging.{is-fresh}
use Rattle.usb_session_streams.proofs.RequestsTake.{request-takes}
use Rattle.usb_session_streams.proofs.ResponsesTake.{response-takes}

pub fresh_clients-keep : FreshClientsKeep
fresh_clients-keep past out inp none_out none_in output input some =
    record {
      is = is-fresh out inp output input some;
      history = nothing_done;
      sent_is = refl;
      received_is = refl;
      asked_is = refl;
      told_is = refl;
      keeps = fresh_keeps past out inp none_out none_in;
    }

pub later_clients-keep : LaterClientsKeep
later_clients-keep old new c sent received asked told extends k =
    record {
      is = k.is;
      history = k.history;
      sent_is = k.sent_is;
      received_is = k.received_is;
      asked_is = k.asked_is;
      told_is = k.told_is;
      keeps = later_keeps old new c k.history extends k.keeps;
    }

pub client_calls-keep : ClientCallsKeep
client_calls-keep (Request body) w sent received asked told free lawful k = request-takes body w.client.ended w sent received asked told refl free k
client_calls-keep Response w sent received asked told free lawful k = response-takes w.client.ended w sent received asked told refl free lawful k
