use Rattle.std.proofs.Common.{◌≡◌, ◌+◌, Some, None, true, set, refl, sym, ap, ◌∙◌}
use Rattle.std.proofs.lemmas.Option.{same_Some}
use Rattle.usb_device_tables.specs.History.{value_at}
use Rattle.usb_device_tables.proofs.ValueLemmas.{value-set_same}
use Rattle.usb_device_ledger.specs.declared.owners.EndpointRow.{EndpointRow}
use Rattle.usb_device_ledger.specs.OwnerRows.{with_row, rows_left, row_gone}
use Rattle.usb_device_ledger.proofs.OwnerLemmas.{with_row-at, row_gone-alive, rows_left-alive}
use Rattle.usb_device_ledger.proofs.owners.Owners.add_ticket.Goals as goal

-- the endpoint lives on, so no claim ends
pub returns : goal.returns
returns c =
    record {
      rows = λ e there.
          let rows = c.args.self.now.rows in
          let interfaces = c.args.self.now.interfaces in
          let key = c.args.key in
          let next : EndpointRow = record e { is_open = true; tickets = e.tickets + 1 } in
          let read : c.row-row.result ≡ e = same_Some c.row-row.result e (sym c.row-row.ensures.row ∙ there) in
          let changed : with_row rows key true (c.row-row.result.tickets + 1) ≡ with_row rows key true (e.tickets + 1) = ap (λ (x : EndpointRow). with_row rows key true (x.tickets + 1)) read in
          let row_is : with_row rows key true (e.tickets + 1) ≡ set rows key (Some next) = with_row-at rows key e true (e.tickets + 1) there in
          let written : value_at (set rows key (Some next)) key ≡ Some next = value-set_same rows key e (Some next) there in
          let none : c.change.result ≡ None = c.change.ensures.gone ∙ ap (λ r. row_gone interfaces r key) (changed ∙ row_is) ∙ row_gone-alive interfaces (set rows key (Some next)) key next written refl in
          let left : rows_left (with_row rows key true (c.row-row.result.tickets + 1)) key ≡ with_row rows key true (e.tickets + 1) = ap (λ r. rows_left r key) (changed ∙ row_is) ∙ rows_left-alive (set rows key (Some next)) key next written refl ∙ sym row_is in
          c.change.ensures.rows ∙ rw (none, left) refl;
    }
