-- `running::Running::step` meets its contract: the move that is called for is the rule's, and it is made. Assumes nothing.
use mathlib.Core.Path.{◌≡◌, refl}
use native.Mathlib.Omega.{arith}
use borrow.Author.Rules.{rules}
use lib.ListN.{length}
use Rattle.std.specs.Prelude.{Some}
use Rattle.sizes.specs.Sizes.{most_tones}
use Rattle.steps.specs.Tones.{Tones, Table}
use Rattle.steps.specs.Runs.{giving_up}
use Rattle.ranks.specs.Ranks.{no_step}
use Rattle.ranks.proofs.Least.{least-free, least-held}
use Rattle.moves.specs.declared.Move.TheVariants.{Take, GiveUp, Exchange}
use Rattle.moves.specs.declared.Step.{Step}
use Rattle.moves.specs.Moves.{rule_of, LatestAt, CallsFor}
use Rattle.running.specs.Running.{Stands, NextFree, LastHeld}
use Rattle.running.proofs.Changes.{inside, next-free, last-held, held-and-free, knows, power-high, can-take, can-give-up, can-exchange}
use Rattle.running.proofs.Running.step.Goals.{After-next_move, in-Add, in-Refit}
use Rattle.running.proofs.Running.step.Goals as goal

pub next_move-requires : goal.next_move-requires
next_move-requires c = omega (arith, power-high c.requires.runnable)

-- the move is the one that the rule calls for, whatever table the running table stands for
called : (c : After-next_move) (T : Tones) (t : Table)
    → Stands (length c.args.tones.now) c.args.tones.now c.args.self T t
    → CallsFor T t c.next_move.result (rule_of c.args.rule T c.args.budget t)
unfolding no_step
called c T t S =
    let I = c.requires.runnable.in_range in
    let K = c.requires.ranked in
    let last : LatestAt c.args.rule T t c.match-rule.latest = elim c.match-rule.branch [
      | in-Add w ↦ rw w.in-Add.is tt
      | in-Refit w ↦ rw (w.in-Refit.is, w.latest-is) (least-held I S.table K w.least.ensures)
    ] in
    c.next_move.ensures T t (knows S I (least-free I S.table K c.least-earliest.ensures) last)

-- so it is of the table that is known of
known : (c : After-next_move) → let R = c.requires.runnable in
    CallsFor R.tones R.table c.next_move.result (rule_of c.args.rule R.tones c.args.budget R.table)
known c = let R = c.requires.runnable in called c R.tones R.table R.stands

-- and that table allows it
free : (c : After-next_move) {f : Step} → c.next_move.result ≡ Some (Take f)
    → let R = c.requires.runnable in NextFree R.tones R.table f
free c e = next-free c.requires.runnable.stands (rw e at (known c)).1

held : (c : After-next_move) {h : Step} → c.next_move.result ≡ Some (GiveUp h)
    → let R = c.requires.runnable in LastHeld R.tones R.table h
held c e = last-held c.requires.runnable.stands (rw e at (known c)).1

both : (c : After-next_move) {h f : Step} → c.next_move.result ≡ Some (Exchange h f)
    → let R = c.requires.runnable in LastHeld R.tones R.table h × NextFree R.tones (giving_up R.table h.tone) f
both c e = held-and-free c.requires.runnable.stands (rw e at (known c)).1

pub take-requires : goal.take-requires
take-requires c =
    let is = rw c.in-Some-Take.field-0-is at c.in-Some-Take.is in
    let R = c.requires.runnable in
    can-take R (free (goal.at.take-requires c).After-next_move is)

pub give_up-requires : goal.give_up-requires
give_up-requires c =
    let is = rw c.in-Some-GiveUp.field-0-is at c.in-Some-GiveUp.is in
    let R = c.requires.runnable in
    can-give-up R (held (goal.at.give_up-requires c).After-next_move is)

pub exchange-requires : goal.exchange-requires
exchange-requires c =
    let is = rw c.in-Some-Exchange.field-0-is at c.in-Some-Exchange.is in
    let R = c.requires.runnable in
    let B = both (goal.at.exchange-requires c).After-next_move is in
    let long : length c.args.self.bits ≡ most_tones = search rules in
    record {
      can_give_up = can-give-up R B.0;
      can_take = can-exchange R long B;
    }

pub returns-in-None : goal.returns-in-None
returns-in-None c = record {
  answer = λ T t S. rw (rw c.in-None.is at (called (goal.at.returns-in-None c).After-next_move T t S)) (refl, refl);
  ranks = c.requires.ranked;
}

pub returns-in-Some-Take : goal.returns-in-Some-Take
returns-in-Some-Take c =
    let is = rw c.in-Some-Take.field-0-is at c.in-Some-Take.is in
    let R = c.requires.runnable in
    let at = (goal.at.returns-in-Some-Take c).After-next_move in
    let did = c.take.ensures in
    record {
      answer = λ T t S. let N = rw is at (called at T t S) in rw N.0 (refl, did.leads.stands _ T t S (next-free S N.1));
      ranks = did.ranks_follow.still_ranked _ (inside R.stands.table (free at is).free.tone) c.requires.ranked;
    }

pub returns-in-Some-GiveUp : goal.returns-in-Some-GiveUp
returns-in-Some-GiveUp c =
    let is = rw c.in-Some-GiveUp.field-0-is at c.in-Some-GiveUp.is in
    let R = c.requires.runnable in
    let at = (goal.at.returns-in-Some-GiveUp c).After-next_move in
    let did = c.give_up.ensures in
    record {
      answer = λ T t S. let N = rw is at (called at T t S) in rw N.0 (refl, did.leads.stands _ T t S (last-held S N.1));
      ranks = did.ranks_follow.still_ranked _ (inside R.stands.table (held at is).held.tone) c.requires.ranked;
    }

pub returns-in-Some-Exchange : goal.returns-in-Some-Exchange
returns-in-Some-Exchange c =
    let is = rw c.in-Some-Exchange.field-0-is at c.in-Some-Exchange.is in
    let R = c.requires.runnable in
    let at = (goal.at.returns-in-Some-Exchange c).After-next_move in
    let did = c.exchange.ensures in
    let B = both at is in
    let T = R.stands.table in
    record {
      answer = λ T t S. let N = rw is at (called at T t S) in rw N.0 (refl, did.leads.stands _ T t S (held-and-free S N.1));
      ranks = did.ranks_follow.still_ranked _ (inside T B.0.held.tone, inside T B.1.free.tone) c.requires.ranked;
    }
