use Rattle.std.proofs.{Common.tests, lemmas.Iterator.YieldsList-from_slice, lemmas.Iterator.Search.find_from_yields_List}
use Rattle.iot_laptop.proofs.Common.{find, live_in, option_copied, rules, sym, ◌≡◌}
use Rattle.iot_laptop.proofs.FindingLaws.{found_class, found_transaction, has_tid}
use Rattle.iot_laptop.proofs.laptop.Laptop.run.Goals as goal

pub returns : goal.returns
returns g c =
    let items = c.running.result.now in
    let is = c.running.ensures in
    let found : option_copied c.find.result ≡ find (has_tid c.args.number) items =
    find_from_yields_List (has_tid c.args.number) _ _ _ c.find.ensures.ran (YieldsList-from_slice items c.iter.ensures.rest)
    (λ x b q k. search (rules, tests)) in
    record {
      running = rw (found, sym is.running) (found_transaction c.args.number items);
      class = rw (found, sym is.running) (found_class c.args.number items (live_in c.args.self.now) is.classes);
    }
