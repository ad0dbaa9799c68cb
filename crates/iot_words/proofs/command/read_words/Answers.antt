use Rattle.std.proofs.Common.{◌∙◌, map, sym}
use Rattle.iot_words.proofs.ReadLaws.{has_kind, read_job, refused_words}
use Rattle.iot_words.proofs.command.read_words.Goals as goal

pub returns-in-Err-clause-refused : goal.returns-in-Err-clause-refused
returns-in-Err-clause-refused c =
    refused_words _ c.in-Err.error c.fault_of.result
    (has_kind _ c.in_ok-command.ensures (map (λ s. s.now) c.args.words.now) c.in-Err.error c.in-Err.ensures.kinds) c.fault_of.ensures

pub returns-in-Some-clause-job : goal.returns-in-Some-clause-job
returns-in-Some-clause-job c =
    sym (read_job _ c.in_ok-command.ensures (map (λ s. s.now) c.args.words.now) c.in-Ok.matches
    c.get_flag.result c.get_flag-2.result c.get_flag-3.result c.get_flag-4.result c.get_flag-5.result _
    c.in-Ok.ensures.kinds c.in-Ok.ensures.matches
    (c.get_flag.ensures.value, c.get_flag.ensures.other) (c.get_flag-2.ensures.value, c.get_flag-2.ensures.other)
    (c.get_flag-3.ensures.value, c.get_flag-3.ensures.other) (c.get_flag-4.ensures.value, c.get_flag-4.ensures.other)
    (c.get_flag-5.ensures.value, c.get_flag-5.ensures.other) c.get_str.ensures)
    ∙ sym c.chosen.ensures ∙ c.in-Some.is

pub returns-clause-refused : goal.returns-clause-refused
returns-clause-refused c =
    λ _. sym (read_job _ c.in_ok-command.ensures (map (λ s. s.now) c.args.words.now) c.in-Ok.matches
    c.get_flag.result c.get_flag-2.result c.get_flag-3.result c.get_flag-4.result c.get_flag-5.result _
    c.in-Ok.ensures.kinds c.in-Ok.ensures.matches
    (c.get_flag.ensures.value, c.get_flag.ensures.other) (c.get_flag-2.ensures.value, c.get_flag-2.ensures.other)
    (c.get_flag-3.ensures.value, c.get_flag-3.ensures.other) (c.get_flag-4.ensures.value, c.get_flag-4.ensures.other)
    (c.get_flag-5.ensures.value, c.get_flag-5.ensures.other) c.get_str.ensures)
    ∙ sym c.chosen.ensures ∙ c.in-None.is
