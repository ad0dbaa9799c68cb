use Rattle.iot_kept.proofs.ContinuingLaws as laws
use Rattle.iot_kept.proofs.laws.pending_reads_stay.Goals as goal

pub returns : goal.returns
returns c = laws.pending_reads_stay
