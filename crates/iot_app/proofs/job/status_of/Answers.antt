use Rattle.std.proofs.Common.{List, map, refl}
use Rattle.iot_app.proofs.EndingsLaws.{took_none, words_end, job_ends}
use Rattle.iot_app.proofs.job.status_of.Goals as goal

pub returns-in-Ok-clause-ends : goal.returns-in-Ok-clause-ends
returns-in-Ok-clause-ends g c =
    job_ends _ (map (λ word. word.now) c.args.words.now) c.in-Ok.job c.do_job.result.0 c.in-Ok.ensures.job c.do_job.ensures.ends

pub returns-in-Err-clause-ends : goal.returns-in-Err-clause-ends
returns-in-Err-clause-ends g c =
    words_end _ c.in-Err.fault _ c.refuse_words.result _ _ c.in-Err.ensures.refused (took_none _ _ _)
    (refl {A = List g.row.D.Denot}) c.refuse_words.ensures
