-- When the calls of a disk in memory fail.
use Rattle.std.specs.Prelude.{ℕ, ◌+◌, ◌-◌, ◌%◌, ◌^◌, Bool, true, false, cond, ◌==◌, Option, Some, None, Result, Ok, Err}
use Rattle.iot_count.specs.Counts.{one_more}
use Rattle.iot_disk.specs.Disk.{Arms}
use Rattle.iot_disk.specs.declared.disk.Arm.{Arm}
use Rattle.iot_disk.specs.declared.disk.Pick.{Pick}
use Rattle.iot_disk.specs.declared.disk.DiskFault.{DiskFault}
use Rattle.iot_disk.specs.declared.disk.DiskFault.TheVariants.{Failed}
use Rattle.iot_disk.specs.declared.failures.Failures.{Failures}

-- never armed, and without a fault
abbrev pub no_failures : Failures
no_failures = record { faults = 0; count = 0; last = None; armed = None; failed = None }

-- how often the disk was armed, and with what the last time
abbrev pub arms_of : Failures → Arms
arms_of f = record { count = f.count; last = f.last }

-- one fault more
abbrev pub after_fault : Failures → Failures
after_fault f = record f { faults = one_more f.faults }

-- the next device call fails: an armed call came since the last restart, or the next one is it
abbrev pub fails : Option Pick → Option Arm → Bool
fails (Some pick) armed = true
fails None (Some arm) = arm.calls == 1
fails None None = false

-- the armed call with its number counted from the next call on; there is no call with the number 0
abbrev pub next : Arm → Arm
next arm = record arm { calls = arm.calls - 1 }

-- the failures after a device call, by the pick of the armed call that came and the armed call that has not come
abbrev pub after_call_by : Failures → Option Pick → Option Arm → Failures
after_call_by f (Some pick) armed = after_fault f
after_call_by f None None = f
after_call_by f None (Some arm) =
    cond (arm.calls == 1)
    (after_fault (record f { armed = None; failed = Some arm.pick }))
    (record f { armed = Some (next arm) })

abbrev pub after_call : Failures → Failures
after_call f = after_call_by f f.failed f.armed

-- what the next device call answers
abbrev pub answer : Failures → Result (Unit {0}) DiskFault
answer f = cond (fails f.failed f.armed) (Err Failed) (Ok tt)

-- a later arm takes the place of one that has not come
abbrev pub after_arm : ℕ → Pick → Failures → Failures
after_arm calls pick f =
    let arm : Arm = record { calls = calls; pick = pick } in
    record f { count = (f.count + 1) % 2 ^ 64; last = Some arm; armed = Some arm }

-- an armed call that has not come stays armed
abbrev pub after_restart : Failures → Failures
after_restart f = record f { failed = None }
