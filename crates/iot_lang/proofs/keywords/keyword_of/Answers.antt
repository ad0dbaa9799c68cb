use Rattle.std.proofs.Common.{rules, codes, ◌≡◌, refl}
use Rattle.std.proofs.lemmas.Slice.Eq.{text_from_reads}
use Rattle.iot_lang.proofs.keywords.keyword_of.Goals as goal

pub returns-in-append : goal.returns-in-append
returns-in-append c = let e : c.args.word.now ≡ codes "append" = search (rules, text_from_reads) in rw e refl

pub returns-in-concat : goal.returns-in-concat
returns-in-concat c = let e : c.args.word.now ≡ codes "concat" = search (rules, text_from_reads) in rw e refl
