use Rattle.iot_laptop.proofs.{CallsLaws.fresh_trails, Common.IfOk-weaker, Common.no_text, Common.rules, Common.sym, Common.◌∙◌}
use Rattle.iot_laptop.proofs.RestartLaws.{CameBack, came_again, came_back, comes_back, is_back, keeps_then, says_up, stops_again}
use Rattle.iot_laptop.proofs.laptop.Laptop.restart.{Given.Over, Goals.In_ok-come_back}
use Rattle.iot_laptop.proofs.laptop.Laptop.restart.Goals as goal

-- how its node came back, or did not
back : (g : Over) (c : In_ok-come_back g)
    → CameBack g.D.Disk.medium c.args.self.now c.come_back.new.self c.args.out.now c.come_back.new.out c.in_ok-come_back.field-0
back g c = record {
  off = sym c.is_alive.ensures ∙ c.if-is_alive.false;
  steps = rw c.as_bytes-name.ensures.value at (c.in_ok-come_back.ensures.step no_text);
  is = c.in_ok-come_back.ensures.on;
  came = rw c.as_bytes-name.ensures.value at (c.in_ok-come_back.ensures.came no_text);
}

pub returns-then-is_alive-clause-step : goal.returns-then-is_alive-clause-step
returns-then-is_alive-clause-step g c =
    says_up g.D.Disk.medium c.args.self.now c.args.out.now c.say.new.out (sym c.is_alive.ensures ∙ c.if-is_alive.true) c.in_ok-say.ensures

pub cut_off-requires : goal.cut_off-requires
cut_off-requires g c = is_back _ _ _ _ _ (rw c.if-not-branch.false at (back g (goal.at.cut_off-requires g c).In_ok-come_back)) c.requires

pub returns-then-not-branch : goal.returns-then-not-branch
returns-then-not-branch g c =
    let on = rw c.if-not-branch.true at (back g (goal.at.returns-then-not-branch g c).In_ok-come_back) in
    let trails = fresh_trails c.args.self.now c.come_back.new.self c.in_ok-come_back.field-0 c.in_ok-come_back.ensures.live in
    let step = stops_again _ _ _ _ _ on in
    record { step = step; came = λ _. came_again _ _ _ _ _ on; trails = trails; place = search rules; disk = search rules }

pub returns : goal.returns
returns g c =
    let on = rw c.if-not-branch.false at (back g (goal.at.returns g c).In_ok-come_back) in
    let cut = c.cut_off.ensures.cuts in
    record {
      step = IfOk-weaker c.cut_off.result _ _ (λ _. comes_back _ _ _ _ _ on c.cut_off.new.self c.cut_off.new.out) cut;
      came = λ down. IfOk-weaker c.cut_off.result _ _ (λ _. came_back _ _ _ _ _ on c.cut_off.new.self c.cut_off.new.out) cut;
      trails = IfOk-weaker c.cut_off.result _ _ (λ _ keeps server bound positive it.
          keeps server bound positive (fresh_trails c.args.self.now c.come_back.new.self c.in_ok-come_back.field-0
          c.in_ok-come_back.ensures.live server bound positive it)) c.cut_off.ensures.trails;
      place = search rules;
      disk = keeps_then g.D.Disk.medium _ _ _ c.come_back.ensures.disk c.cut_off.ensures.disk;
    }
