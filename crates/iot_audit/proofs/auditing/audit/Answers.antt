use Rattle.std.proofs.Common.{arith}
use Rattle.iot_audit.proofs.AuditedLaws.{audited_here, compared_audited, compared_cause, compared_exact, compared_takes, err_by}
use Rattle.iot_audit.proofs.AuditedLaws.{image_exact, image_taken, match_by}
use Rattle.iot_audit.proofs.ListsLaws.{list_here}
use Rattle.iot_audit.proofs.auditing.audit.Goals as goal

-- ---- no image

pub returns-in_err-image-clause-takes : goal.returns-in_err-image-clause-takes
returns-in_err-image-clause-takes c = λ audited.
    err_by c.from_residual.result _ _ c.from_residual.ensures.1
    (image_taken c.in_err-image.field-0.0 (c.in_err-image.ensures.never audited.state audited.stands))

pub returns-in_err-image-clause-serial : goal.returns-in_err-image-clause-serial
returns-in_err-image-clause-serial c = λ commits it declared.
    err_by c.from_residual.result _ _ c.from_residual.ensures.1
    (image_taken c.in_err-image.field-0.0 (c.in_err-image.ensures.never _ it.stands))

pub returns-in_err-image-clause-exact : goal.returns-in_err-image-clause-exact
returns-in_err-image-clause-exact c = λ reason why.
    match_by c.from_residual.result _ _ c.from_residual.ensures.1
    (image_exact c.args.events.now c.args.image.now c.in_err-image.field-0.0 c.in_err-image.ensures.never c.in_err-image.ensures.foreign
    c.in_err-image.ensures.damaged reason why)

-- ---- an image that was read

pub returns-clause-audited : goal.returns-clause-audited
returns-clause-audited c =
    let found = c.in_ok-image.ensures in
    compared_audited c.args.events.now c.args.image.now c.in_ok-image.image
    (record {
      is = found.stands;
      only = found.only;
      recorded = found.recorded;
      few = found.last;
      foreign = found.foreign;
      damaged = found.damaged;
      labels = found.state;
    }) c.compare.result (c.compare.ensures c.args.events.now c.in_ok-scripts.ensures)

pub returns-clause-takes : goal.returns-clause-takes
returns-clause-takes c = λ audited.
    let found = c.in_ok-image.ensures in
    compared_takes c.in_ok-image.image c.compare.result _ (c.compare.ensures c.args.events.now c.in_ok-scripts.ensures)
    (audited_here c.args.events.now c.args.image.now c.in_ok-image.image
    (record {
      is = found.stands;
      only = found.only;
      recorded = found.recorded;
      few = found.last;
      foreign = found.foreign;
      damaged = found.damaged;
      labels = found.state;
    }) audited)

pub returns-clause-serial : goal.returns-clause-serial
returns-clause-serial c = λ commits it declared.
    let found = c.in_ok-image.ensures in
    compared_takes c.in_ok-image.image c.compare.result _ (c.compare.ensures c.args.events.now c.in_ok-scripts.ensures)
    (list_here c.args.events.now c.args.image.now c.in_ok-image.image
    (record {
      is = found.stands;
      only = found.only;
      recorded = found.recorded;
      few = found.last;
      foreign = found.foreign;
      damaged = found.damaged;
      labels = found.state;
    }) (omega arith) c.in_ok-scripts.ensures.each commits it declared)

pub returns-clause-cause : goal.returns-clause-cause
returns-clause-cause c =
    let found = c.in_ok-image.ensures in
    compared_cause c.args.events.now c.args.image.now c.in_ok-image.image
    (record {
      is = found.stands;
      only = found.only;
      recorded = found.recorded;
      few = found.last;
      foreign = found.foreign;
      damaged = found.damaged;
      labels = found.state;
    }) c.compare.result (c.compare.ensures c.args.events.now c.in_ok-scripts.ensures)

pub returns-clause-exact : goal.returns-clause-exact
returns-clause-exact c = λ reason why.
    let found = c.in_ok-image.ensures in
    compared_exact c.args.events.now c.args.image.now c.in_ok-image.image
    (record {
      is = found.stands;
      only = found.only;
      recorded = found.recorded;
      few = found.last;
      foreign = found.foreign;
      damaged = found.damaged;
      labels = found.state;
    }) reason why c.compare.result
    (c.compare.ensures c.args.events.now c.in_ok-scripts.ensures)
