-- Committed transactions whose trees have spellings.
use Rattle.iot_tree.specs.declared.labels.Way.{Way}
use Rattle.iot_lang.specs.Scripts.{IsScript}
use Rattle.iot_exec.specs.Serial.{Entry}
use Rattle.iot_limits.specs.Spelled.{AreSpelledFiles}

-- the script of the entry is one, and its kept files have spellings
pub record IsSpelledEntry (entry : Entry Way) : Type 0 where
  pub script : IsScript entry.script
  pub kept : AreSpelledFiles entry.kept
