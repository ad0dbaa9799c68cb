use Rattle.std.proofs.Common.{◌≡◌, ◌≢◌, ℕ, List, refl, sym, ap, ◌∙◌, subst}
use Rattle.iot_disk.specs.Disk.{SameImages}
use Rattle.iot_slots.specs.Decoding.{Encodes, NotStarted, decoded, opened, state_in}
use Rattle.iot_slots.specs.Layouts.{place_in}
use Rattle.iot_slots.specs.Start.{started_over}
use Rattle.iot_slots.specs.declared.layout.Layout.{Layout}
use Rattle.iot_slots.specs.declared.version.Version.{Version}
use Rattle.iot_slots.specs.declared.version.Version.TheVariants.{Two}
use Rattle.iot_durable.specs.Standing.{header_of}
use Rattle.iot_durable.proofs.DamageLaws.{refused_same, cause_of}
use Rattle.iot_durable.proofs.ImagesLaws.{stands_made, made_stands, start_count}
use Rattle.iot_durable.proofs.alone.Durable+R+Slots+D.start.Goals as goal

-- what was started under this header, by the body as it is lent
opens_as : (head header bytes : List ℕ) (version lent_version : Version) (first body lent : List ℕ) (records lent_records : List (List ℕ))
    (count : ℕ) → head ≡ header → opened first (decoded head bytes) ≡ Encodes (state_in version body records count) →
    lent_version ≡ version → lent ≡ body → lent_records ≡ records →
    opened first (decoded header bytes) ≡ Encodes (state_in lent_version lent lent_records count)
opens_as head header bytes version lent_version first body lent records lent_records count ours is as_version same alike =
    ap (λ (h : List ℕ). opened first (decoded h bytes)) (sym ours)
    ∙ is ∙ (λ i. Encodes (state_in (sym as_version i) (sym same i) (sym alike i) count))

started_as : (head header bytes : List ℕ) → head ≡ header → decoded header bytes ≢ NotStarted → decoded head bytes ≢ NotStarted
started_as head header bytes ours started = subst (λ (h : List ℕ). decoded h bytes ≢ NotStarted) (sym ours) started

fresh_as : (head header first old new : List ℕ) → head ≡ header → (decoded head old ≡ NotStarted → new ≡ started_over head first old) →
    decoded header old ≡ NotStarted → new ≡ started_over header first old
fresh_as head header first old new ours fresh =
    subst (λ (h : List ℕ). decoded h old ≡ NotStarted → new ≡ started_over h first old) ours fresh

pub returns-in-Ok-replay-clause-stands : goal.returns-in-Ok-replay-clause-stands
returns-in-Ok-replay-clause-stands g c =
    let rules = g.R.Recorded.rules in
    let bytes = g.D.Disk.medium.reads c.args.disk in
    let header = header_of rules in
    let first = c.as_bytes.result.now in
    let spells = subst (λ (l : List ℕ). (rules Two).IsBody l (rules Two).opening) (sym c.as_bytes.ensures) c.in-Ok.ensures in
    let opens = opens_as c.header.result header bytes _ c.layout-layout.result.version first _ c.as_slice.result.now _ c.iter.result _
    c.header.ensures c.in-Ok-start_with.ensures.state
    (ap (λ (l : Layout). l.version) c.layout-layout.ensures.layout) c.as_slice.ensures c.iter.ensures in
    let made = c.in-Ok-replay.ensures in
    record {
      stands = record {
        decoding = decoded header bytes;
        is = refl;
        makes = made_stands rules first spells (decoded header bytes) _ _ opens made.only made.makes;
      };
      counted = start_count first (decoded header bytes) _ opens;
    }

pub returns-in-Ok-replay-clause-only : goal.returns-in-Ok-replay-clause-only
returns-in-Ok-replay-clause-only g c = λ state stands.
    let rules = g.R.Recorded.rules in
    let bytes = g.D.Disk.medium.reads c.args.disk in
    let header = header_of rules in
    let first = c.as_bytes.result.now in
    let spells = subst (λ (l : List ℕ). (rules Two).IsBody l (rules Two).opening) (sym c.as_bytes.ensures) c.in-Ok.ensures in
    let opens = opens_as c.header.result header bytes _ c.layout-layout.result.version first _ c.as_slice.result.now _ c.iter.result _
    c.header.ensures c.in-Ok-start_with.ensures.state
    (ap (λ (l : Layout). l.version) c.layout-layout.ensures.layout) c.as_slice.ensures c.iter.ensures in
    c.in-Ok-replay.ensures.only state
    (stands_made rules first spells stands.decoding _ state (ap (opened first) (sym stands.is) ∙ opens) stands.makes)

pub returns-clause-never : goal.returns-clause-never
returns-clause-never g c = λ state stands.
    let rules = g.R.Recorded.rules in
    let bytes = g.D.Disk.medium.reads c.args.disk in
    let header = header_of rules in
    let first = c.as_bytes.result.now in
    let spells = subst (λ (l : List ℕ). (rules Two).IsBody l (rules Two).opening) (sym c.as_bytes.ensures) c.in-Ok.ensures in
    let opens = opens_as c.header.result header bytes _ c.layout-layout.result.version first _ c.as_slice.result.now _ c.iter.result _
    c.header.ensures c.in-Ok-start_with.ensures.state
    (ap (λ (l : Layout). l.version) c.layout-layout.ensures.layout) c.as_slice.ensures c.iter.ensures in
    c.in-Err-replay.ensures.never state
    (stands_made rules first spells stands.decoding _ state (ap (opened first) (sym stands.is) ∙ opens) stands.makes)

pub returns-clause-cause : goal.returns-clause-cause
returns-clause-cause g c =
    let rules = g.R.Recorded.rules in
    let bytes = g.D.Disk.medium.reads c.args.disk in
    let header = header_of rules in
    let first = c.as_bytes.result.now in
    let spells = subst (λ (l : List ℕ). (rules Two).IsBody l (rules Two).opening) (sym c.as_bytes.ensures) c.in-Ok.ensures in
    let opens = opens_as c.header.result header bytes _ c.layout-layout.result.version first _ c.as_slice.result.now _ c.iter.result _
    c.header.ensures c.in-Ok-start_with.ensures.state
    (ap (λ (l : Layout). l.version) c.layout-layout.ensures.layout) c.as_slice.ensures c.iter.ensures in
    let there = started_as c.header.result header bytes c.header.ensures in
    let here = λ (started : decoded header bytes ≢ NotStarted).
    c.layout-layout.ensures.place ∙ ap place_in (c.in-Ok-start_with.ensures.only_read (there started)) in
    let stayed = ap g.D.Disk.medium.faults c.into_disk.ensures ∙ c.in-Ok-start_with.ensures.steady in
    cause_of rules first spells c.in-Err-replay.fault bytes _ _ _ _ c.layout-layout.result.place _ _ opens here
    c.in-Err-replay.ensures.err stayed

pub returns-clause-refused_reads : goal.returns-clause-refused_reads
returns-clause-refused_reads g c =
    let rules = g.R.Recorded.rules in
    let bytes = g.D.Disk.medium.reads c.args.disk in
    let header = header_of rules in
    let first = c.as_bytes.result.now in
    let spells = subst (λ (l : List ℕ). (rules Two).IsBody l (rules Two).opening) (sym c.as_bytes.ensures) c.in-Ok.ensures in
    let opens = opens_as c.header.result header bytes _ c.layout-layout.result.version first _ c.as_slice.result.now _ c.iter.result _
    c.header.ensures c.in-Ok-start_with.ensures.state
    (ap (λ (l : Layout). l.version) c.layout-layout.ensures.layout) c.as_slice.ensures c.iter.ensures in
    let there = started_as c.header.result header bytes c.header.ensures in
    let same = λ (started : decoded header bytes ≢ NotStarted).
    ap g.D.Disk.medium.reads c.into_disk.ensures ∙ c.in-Ok-start_with.ensures.only_read (there started) in
    refused_same rules first spells c.in-Err-replay.fault (decoded header bytes) _ _ _ _ c.layout-layout.result.place _ opens
    c.in-Err-replay.ensures.err same

pub returns-clause-refused_images : goal.returns-clause-refused_images
returns-clause-refused_images g c =
    let rules = g.R.Recorded.rules in
    let bytes = g.D.Disk.medium.reads c.args.disk in
    let header = header_of rules in
    let first = c.as_bytes.result.now in
    let spells = subst (λ (l : List ℕ). (rules Two).IsBody l (rules Two).opening) (sym c.as_bytes.ensures) c.in-Ok.ensures in
    let opens = opens_as c.header.result header bytes _ c.layout-layout.result.version first _ c.as_slice.result.now _ c.iter.result _
    c.header.ensures c.in-Ok-start_with.ensures.state
    (ap (λ (l : Layout). l.version) c.layout-layout.ensures.layout) c.as_slice.ensures c.iter.ensures in
    let there = started_as c.header.result header bytes c.header.ensures in
    let same = λ (started : decoded header bytes ≢ NotStarted).
    subst (λ (disk : g.row.D.Denot). SameImages (g.D.Disk.medium.may_leave c.args.disk) (g.D.Disk.medium.may_leave disk))
    (sym c.into_disk.ensures) (c.in-Ok-start_with.ensures.only_read_images (there started)) in
    refused_same rules first spells c.in-Err-replay.fault (decoded header bytes) _ _ _ _ c.layout-layout.result.place _ opens
    c.in-Err-replay.ensures.err same

pub returns-in-Ok-replay-clause-fresh : goal.returns-in-Ok-replay-clause-fresh
returns-in-Ok-replay-clause-fresh g c = λ not_started. record {
  body = c.as_bytes.result.now;
  spells = subst (λ (l : List ℕ). (g.R.Recorded.rules Two).IsBody l (g.R.Recorded.rules Two).opening)
      (sym c.as_bytes.ensures) c.in-Ok.ensures;
  is = fresh_as c.header.result (header_of g.R.Recorded.rules) c.as_bytes.result.now (g.D.Disk.medium.reads c.args.disk) _
      c.header.ensures c.in-Ok-start_with.ensures.fresh not_started;
}
