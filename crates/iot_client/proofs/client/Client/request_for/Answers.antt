use Rattle.iot_codec.specs.Laws.Sorted.{rising_table}
use Rattle.iot_client.proofs.client.Client.request_for.Goals as goal

pub refresh-requires-clause-known : goal.refresh-requires-clause-known
refresh-requires-clause-known g c = record {
  rising = rising_table c.in_ok-known.known c.in_ok-known.ensures.rising;
  each = c.in_ok-known.ensures.each;
}
