use Rattle.std.proofs.lemmas.Bool.Decides.{Decides-at}
use Rattle.text_value.specs.Rfc3629.{utf8}
use Rattle.text_value.specs.Rfc.{utf8_decides, utf8_true, true_utf8, tested, only_read}
use Rattle.text_value.proofs.read.Goals as goal

pub returns : goal.returns
returns c =
    let bs = c.args.bytes.now in
    let r = c.from_utf8.result in
    let e = tested bs _ _ r c.from_utf8.ensures.cases in
    record {
      test = e;
      rfc = Decides-at _ (utf8 bs) e (utf8_decides bs);
      library = Decides-at _ (utf8 bs) e (true_utf8 bs, utf8_true bs);
      text = only_read bs _ _ r c.from_utf8.ensures.cases;
    }
