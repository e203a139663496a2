use Rattle.std.proofs.Common.{refl, ap}
use Rattle.usb_io.specs.Readers.{ReaderState}
use Rattle.usb_io.specs.Writers.{WriterState}
use Rattle.usb_session_calls.proofs.ReaderCode.{keeps-rest}
use Rattle.usb_session_calls.proofs.ClientCode.{keeps-client, request-answers, response-answers, count-answers}
use Rattle.usb_session_calls.proofs.client_calls.call_client.Goals as goal

pub returns-in-Request-clause-keeps : goal.returns-in-Request-clause-keeps
returns-in-Request-clause-keeps c =
    let keeps = c.request.ensures.keeps in
    rw c.in-Request.is
    (record {
      called = keeps-client _ _ _ _ keeps keeps.stand.out;
      other = ap (λ (r : ReaderState). r.endpoint) c.request.ensures.reader;
    })

pub returns-in-Request-clause-answered : goal.returns-in-Request-clause-answered
returns-in-Request-clause-answered c =
    rw c.in-Request.is (request-answers c.in-Request.body _ _ _ _ _ c.args.line.now c.request.new.line c.request.result c.as_slice.ensures.value c.request.ensures.printed)

pub returns-in-Response-clause-keeps : goal.returns-in-Response-clause-keeps
returns-in-Response-clause-keeps c =
    let keeps = c.response.ensures.keeps in
    rw c.in-Response.is
    (record {
      called = keeps-client _ _ _ _ keeps keeps.stand.inp;
      other = ap (λ (w : WriterState). w.endpoint) c.response.ensures.writer;
    })

pub returns-in-Response-clause-answered : goal.returns-in-Response-clause-answered
returns-in-Response-clause-answered c =
    rw c.in-Response.is (response-answers _ _ _ _ c.args.line.now c.response.new.line c.response.result c.response.ensures.printed)

pub returns-in-Outstanding-clause-keeps : goal.returns-in-Outstanding-clause-keeps
returns-in-Outstanding-clause-keeps c =
    rw c.in-Outstanding.is (record { called = keeps-rest c.args.host.now _ _ c.requires.stand.inp refl; other = refl })

pub returns-in-Outstanding-clause-answered : goal.returns-in-Outstanding-clause-answered
returns-in-Outstanding-clause-answered c =
    rw c.in-Outstanding.is (count-answers c.args.host.now _ c.args.line.now c.write_count.new.line c.write_count.result c.write_count.ensures.text)
