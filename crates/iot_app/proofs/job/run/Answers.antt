use Rattle.iot_app.proofs.job.run.Goals as goal

pub returns-clause-ends : goal.returns-clause-ends
returns-clause-ends g c = record { status = c.status_of-status.result.0; is = c.code.ensures; so = c.status_of-status.ensures.ends }

pub returns-clause-source_faults : goal.returns-clause-source_faults
returns-clause-source_faults g c =
    record { status = c.status_of-status.result.0; is = c.code.ensures; so = c.status_of-status.ensures.source_faults }

pub returns-clause-sink_faults : goal.returns-clause-sink_faults
returns-clause-sink_faults g c =
    record { status = c.status_of-status.result.0; is = c.code.ensures; so = c.status_of-status.ensures.sink_faults }
