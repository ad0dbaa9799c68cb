use Rattle.std.proofs.Common.{◌≡◌, ℕ, ◌++◌, List, ap, subst, sym, ◌∙◌}
use Rattle.iot_views.specs.Rules.{AreLines}
use Rattle.iot_limits.proofs.AccessLaws.{lines_spelled}
use Rattle.iot_wire.specs.Spelling.{request_spelling}
use Rattle.iot_wire.specs.declared.requests.Request.TheVariants.{Commit}
use Rattle.iot_client.proofs.requests.submission.Goals as goal

pub put_commit-requires-clause-lines : goal.put_commit-requires-clause-lines
put_commit-requires-clause-lines c = subst AreLines (sym c.in_ok-lines.ensures) (lines_spelled c.args.acts.now c.requires.acts)

pub returns : goal.returns
returns c =
    let written : c.put_commit.new.out ≡ request_spelling (Commit c.args.label.now c.args.access.now c.in_ok-lines.lines) =
    c.in_ok-put_commit.ensures
    ∙ ap (λ (front : List ℕ). front ++ request_spelling (Commit c.args.label.now c.args.access.now c.in_ok-lines.lines))
    c.in_ok-out.ensures in
    record {
      value = (c.requires.label, (c.requires.access, lines_spelled c.args.acts.now c.requires.acts));
      spelled =
          sym
          (subst (λ (lines : List (List ℕ)). c.put_commit.new.out ≡ request_spelling (Commit c.args.label.now c.args.access.now lines))
          c.in_ok-lines.ensures written);
    }
