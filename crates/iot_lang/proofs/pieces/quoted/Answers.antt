use Rattle.std.proofs.Common.{rules, arith}
use Rattle.std.proofs.lemmas.Bool.{ne_eqb}
use Rattle.iot_lang.proofs.ParsingLaws.{quoted_more}
use Rattle.iot_lang.proofs.pieces.quoted.Goals as goal

pub bytes-preserved : goal.bytes-preserved
bytes-preserved c = record {
  told =
      quoted_more c.bytes.bytes.items c.push.new.self.items c.bytes.rest.now c.in-Some.after.now c.in_ok-byte.after.now c.args.text.now
      c.in-Some.byte.now c.in_ok-byte.byte c.in-Some.ensures.cases.0 (ne_eqb _ 34 c.if-byte-eq34.false) c.in_ok-byte.ensures.parses
      (search rules) c.bytes.invariant.told;
  shorter = omega (arith, c.in_ok-byte.ensures.shorter, c.in-Some.ensures.cases.1);
}
