use Rattle.iot_lang.proofs.ScriptsLaws.{only_script, only_bad, only_deep, only_open}
use Rattle.iot_lines.specs.Lines.{lines}
use Rattle.iot_lang.proofs.parsing.parse.Goals as goal

pub returns-clause-only : goal.returns-clause-only
returns-clause-only c =
    λ script h. only_script (lines c.args.text.now) c.parse_lines.result script c.parse_lines.ensures.found c.parse_lines.ensures.fault h

pub returns-clause-bad : goal.returns-clause-bad
returns-clause-bad c =
    λ line h. only_bad (lines c.args.text.now) c.parse_lines.result line c.parse_lines.ensures.found c.parse_lines.ensures.fault h

pub returns-clause-deep : goal.returns-clause-deep
returns-clause-deep c =
    λ line h. only_deep (lines c.args.text.now) c.parse_lines.result line c.parse_lines.ensures.found c.parse_lines.ensures.fault h

pub returns-clause-open : goal.returns-clause-open
returns-clause-open c =
    λ line h. only_open (lines c.args.text.now) c.parse_lines.result line c.parse_lines.ensures.found c.parse_lines.ensures.fault h
