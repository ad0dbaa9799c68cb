-- What was received and sent.
use Rattle.std.specs.Prelude.{ℕ, ◌+◌, ◌%◌, ◌^◌, Vec, length, Result, Ok, Err}
use Rattle.std.specs.declared.alloc.Global.{Global}
use Rattle.iot_server.specs.declared.fault.ServerFault.{ServerFault}
use Rattle.iot_server.specs.declared.traffic.Traffic.{Traffic}

abbrev pub no_traffic : Traffic
no_traffic = record { requests = 0; received = 0; sent = 0 }

-- one request more, of so many bytes, with a reply of so many
abbrev pub one_more : ℕ → ℕ → Traffic → Traffic
one_more asked replied traffic = record {
  requests = (traffic.requests + 1) % 2 ^ 64;
  received = (traffic.received + asked) % 2 ^ 64;
  sent = (traffic.sent + replied) % 2 ^ 64;
}

-- the traffic after a request of so many bytes: one that has a reply counts, and no other
abbrev pub traffic_after : Result (Vec ℕ Global) ServerFault → ℕ → Traffic → Traffic
traffic_after (Ok bytes) asked traffic = one_more asked (length bytes.items) traffic
traffic_after (Err _) asked traffic = traffic
