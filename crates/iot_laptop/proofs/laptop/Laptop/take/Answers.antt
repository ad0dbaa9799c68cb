use Rattle.iot_laptop.proofs.{CallsLaws.as_is, CallsLaws.called, CallsLaws.holds_beside, CallsLaws.takes, Common.refl, Common.rules}
use Rattle.iot_standing.proofs.KeptLaws.{fetched_live, held_live}
use Rattle.iot_laptop.proofs.laptop.Laptop.take.Goals as goal

pub returns-in-Refresh : goal.returns-in-Refresh
returns-in-Refresh g c =
    let is = c.take_objects-answer.ensures in
    let call = called c.client_mut.ensures.lent c.goes_on.ensures.goes c.records-count.ensures is.tied is.counts is.arms in
    let took = takes call is.only is.brings is.live is.stopped (λ scripts first m here t. held_live here t) (search rules) in
    let runs = holds_beside call _ c.args.reply.now is.brings (λ t. refl) in
    rw c.in-Refresh.is (record { takes = rw (as_is c.goes_on.result) at took; running = λ may. runs })

pub returns-in-Fetch : goal.returns-in-Fetch
returns-in-Fetch g c =
    let is = c.fetched-answer.ensures in
    let call =
    called c.client_mut-in-Fetch.ensures.lent c.goes_on-in-Fetch.ensures.goes c.records-count.ensures is.tied is.counts is.arms in
    let took = takes call is.only is.brings is.live is.stopped
    (λ scripts first m here t. fetched_live here c.in-Fetch.number t) (search rules) in
    rw c.in-Fetch.is (record { takes = rw (as_is c.goes_on-in-Fetch.result) at took; running = λ may. absurd may })

pub returns-in-Walk : goal.returns-in-Walk
returns-in-Walk g c =
    let is = c.take_walk-answer.ensures in
    let call = called c.client_mut-in-Walk.ensures.lent c.goes_on-in-Walk.ensures.goes c.records-count.ensures is.tied is.counts is.arms in
    let took = takes call is.only is.brings is.live is.stopped (λ scripts first m here t. held_live here t) (search rules) in
    let runs = holds_beside call _ c.args.reply.now is.brings (λ t. refl) in
    rw c.in-Walk.is (record { takes = rw (as_is c.goes_on-in-Walk.result) at took; running = λ may. runs })
