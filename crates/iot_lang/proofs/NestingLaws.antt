-- What a line does to the lines so far and to the open blocks.
use Rattle.std.proofs.Common.{◌≡◌, ◌+◌, ◌<◌, ◌≤◌, ◌++◌, ℕ, Bool, true, false, List, [], ◌∷◌, length, Some, None, refl, sym, ap}
use Rattle.std.proofs.Common.{subst, ◌∙◌, append_assoc, arith}
use Rattle.iot_lines.specs.Words.{is_skipped}
use Rattle.iot_lang.specs.OpenBlocks.{open_after}
use Rattle.std.specs.List.{flat_map}
use Rattle.std.proofs.lemmas.List.{append-nil}
use Rattle.iot_lang.specs.Code.{Code, script_lines}
use Rattle.iot_lang.specs.Blocks.{code_of_statements}
use Rattle.iot_lang.specs.Print.{lines_in, statement_lines}
use Rattle.iot_lang.proofs.BlocksLaws.{lines_in-push}
use Rattle.iot_lang.specs.Nesting.{closed_by, head_lines, may_turn, open_lines, lines_so_far, stack_on, stack_of, HasTaken, Adds, Opens}
use Rattle.iot_lang.specs.Nesting.{Moves, IsFull}
use Rattle.iot_lang.specs.Scripts.{said, Spell, Begin, BeginWithin, IsOpen, IsScript}
use Rattle.iot_lang.proofs.ScriptsLaws.{AreTaken, Says, taken_line, taken_skipped, bad_line, deep_line, taken_begins, taken_open}
use Rattle.iot_lang.proofs.ScriptsLaws.{taken_script, spelled_lines}
use Rattle.iot_lang.specs.declared.words.Cond.{Cond}
use Rattle.iot_lang.specs.declared.words.Command.{Command}
use Rattle.iot_lang.specs.declared.lines.Line.{Line}
use Rattle.iot_lang.specs.declared.lines.Line.TheVariants as says
use Rattle.iot_lang.specs.declared.blocks.Stmt.{Stmt}
use Rattle.iot_lang.specs.declared.blocks.Stmt.TheVariants as statements
use Rattle.iot_lang.specs.declared.nesting.Head.{Head}
use Rattle.iot_lang.specs.declared.nesting.Head.TheVariants as heads
use Rattle.iot_lang.specs.declared.nesting.Open.{Open}
use Rattle.iot_lang.specs.declared.nesting.Nesting.{Nesting}
use Rattle.iot_lang.specs.declared.nesting.TheConstants.{DEPTH_LIMIT}

pub flat_map-push : (os : List Open) (o : Open) → flat_map open_lines (os ++ o ∷ []) ≡ flat_map open_lines os ++ open_lines o
flat_map-push [] o = append-nil (open_lines o)
flat_map-push (p ∷ os) o =
    ap (λ ls. open_lines p ++ ls) (flat_map-push os o) ∙ sym (append_assoc (open_lines p) (flat_map open_lines os) (open_lines o))

stack_on-push : (below : List Bool) (os : List Open) (o : Open) → stack_on below (os ++ o ∷ []) ≡ may_turn o.head ∷ stack_on below os
stack_on-push below [] o = refl
stack_on-push below (p ∷ os) o = stack_on-push (may_turn p.head ∷ below) os o

pub length-stack_on : (below : List Bool) (os : List Open) → length (stack_on below os) ≡ length os + length below
length-stack_on below [] = omega arith
length-stack_on below (o ∷ os) = omega (arith, length-stack_on (may_turn o.head ∷ below) os)

-- ---- each step

pub adds_do : (old new : Nesting) (command : Command) → Adds old (statements.Do command) new → Moves old (says.Do command) new
adds_do old new command h = record {
  lines =
      rw (h.same_open, h.added, lines_in-push old.statements.items (statements.Do command))
      (sym (append_assoc (flat_map open_lines old.open.items) (lines_in old.statements.items) (says.Do command ∷ [])));
  stack = rw h.same_open refl;
}

pub adds_stop : (old new : Nesting) → Adds old statements.Stop new → Moves old says.Stop new
adds_stop old new h = record {
  lines =
      rw (h.same_open, h.added, lines_in-push old.statements.items statements.Stop)
      (sym (append_assoc (flat_map open_lines old.open.items) (lines_in old.statements.items) (says.Stop ∷ [])));
  stack = rw h.same_open refl;
}

pub opens_at : (old new : Nesting) (o : Open) (head : Head) → new.open.items ≡ old.open.items ++ o ∷ []
    → o.before.items ≡ old.statements.items → o.head ≡ head → new.statements.items ≡ [] → length old.open.items < DEPTH_LIMIT
    → Opens old head new
opens_at old new o head open_ before same none room =
    let outer : List Line = flat_map open_lines old.open.items in
    record {
      lines = rw (open_, flat_map-push old.open.items o, before, same, none)
          (append-nil (outer ++ (lines_in old.statements.items ++ head_lines head))
          ∙ sym (append_assoc outer (lines_in old.statements.items) (head_lines head)));
      stack = rw (open_, stack_on-push [] old.open.items o, same) refl;
      room = omega (arith, length-stack_on [] old.open.items);
    }

pub is_full : (old : Nesting) → DEPTH_LIMIT ≤ length old.open.items → DEPTH_LIMIT ≤ length (stack_of old)
is_full old h = omega (arith, length-stack_on [] old.open.items)

pub turns_at : (old new : Nesting) (popped : List Open) (o o' : Open) (condition : Cond) (first : Code) → old.open.items ≡ popped ++ o ∷ []
    → o.head ≡ heads.If condition
    → new.open.items ≡ popped ++ o' ∷ [] → o'.before.items ≡ o.before.items → o'.head ≡ heads.Else condition first
    → first ≡ code_of_statements old.statements.items → new.statements.items ≡ [] → Moves old says.Else new
turns_at old new popped o o' condition first was is_if now before is_else body none = record {
  lines =
      rw (was, now, flat_map-push popped o, flat_map-push popped o', is_if, is_else, before, none, body) (simp (append_assoc, append-nil));
  stack = rw (was, now, stack_on-push [] popped o, stack_on-push [] popped o', is_if, is_else) refl;
}

pub cannot_turn : (old : Nesting) (popped : List Open) (o : Open) → old.open.items ≡ popped ++ o ∷ [] → may_turn o.head ≡ false
    → open_after (DEPTH_LIMIT + 1) (stack_of old) (says.Else ∷ []) ≡ None
cannot_turn old popped o was not = rw (was, stack_on-push [] popped o, not) refl

statement_lines-closed_by : (head : Head) (body : Code)
    → statement_lines (closed_by head body) ≡ head_lines head ++ (script_lines body ++ says.Close ∷ [])
statement_lines-closed_by (heads.If condition) body = refl
statement_lines-closed_by (heads.Else condition first) body = simp append_assoc
statement_lines-closed_by (heads.For x p) body = refl

pub closes_at : (old new : Nesting) (popped : List Open) (o : Open) (s : Stmt) → old.open.items ≡ popped ++ o ∷ [] → new.open.items ≡ popped
    → new.statements.items ≡ o.before.items ++ s ∷ []
    → s ≡ closed_by o.head (code_of_statements old.statements.items) → Moves old says.Close new
closes_at old new popped o s was now added closed = record {
  lines =
      rw (
        was,
        now,
        flat_map-push popped o,
        added,
        lines_in-push o.before.items s,
        closed,
        statement_lines-closed_by o.head (code_of_statements old.statements.items),
      )
      (simp append_assoc);
  stack = rw (was, now, stack_on-push [] popped o) refl;
}

pub may_turn-other : (head : Head) → ((condition : Cond) → head ≡ heads.If condition → ⊥) → may_turn head ≡ false
may_turn-other (heads.If condition) other = absurd (other condition refl)
may_turn-other (heads.Else condition first) other = refl
may_turn-other (heads.For x p) other = refl

-- ---- the texts that have been taken

are_taken : (n : Nesting) (texts : List (List ℕ)) → HasTaken n texts → AreTaken texts (lines_so_far n) (stack_of n)
are_taken n texts h = record { spelled = h.spelled; sound = h.sound }

pub moved : (old new : Nesting) (text : List ℕ) (line : Line) (texts : List (List ℕ)) → Says text line → Moves old line new
    → HasTaken old texts → HasTaken new (texts ++ text ∷ [])
moved old new text line texts says m h =
    let r = taken_line texts text (lines_so_far old) (stack_of old) (stack_of new) line says m.stack (are_taken old texts h) in
    record { sound = rw m.lines r.sound; spelled = rw m.lines r.spelled }

pub passed : (n : Nesting) (text : List ℕ) (texts : List (List ℕ)) → is_skipped text ≡ true → HasTaken n texts
    → HasTaken n (texts ++ text ∷ [])
passed n text texts skipped h =
    let r = taken_skipped texts text (lines_so_far n) (stack_of n) skipped (are_taken n texts h) in
    record { sound = r.sound; spelled = r.spelled }

pub stuck : (n : Nesting) (text : List ℕ) (line : Line) (texts : List (List ℕ)) → Says text line
    → open_after (DEPTH_LIMIT + 1) (stack_of n) (line ∷ []) ≡ None → HasTaken n texts → BeginWithin (DEPTH_LIMIT + 1) (texts ++ text ∷ [])
    → ⊥
stuck n text line texts says none h = bad_line texts text (lines_so_far n) (stack_of n) line says none (are_taken n texts h)

pub too_deep : (n : Nesting) (text : List ℕ) (line : Line) (texts : List (List ℕ)) → Says text line → IsFull n line → HasTaken n texts
    → (Begin (texts ++ text ∷ []) → ⊥) × BeginWithin (DEPTH_LIMIT + 1) (texts ++ text ∷ [])
too_deep n text line texts says f h = deep_line texts text (lines_so_far n) (stack_of n) line says f.opening f.full (are_taken n texts h)

pub left_open : (n : Nesting) (texts : List (List ℕ)) → (length n.open.items ≡ 0 → ⊥) → HasTaken n texts → IsOpen texts (length texts)
left_open n texts some h = by_stack (stack_of n) refl
  where
    by_stack : (st : List Bool) → stack_of n ≡ st → IsOpen texts (length texts)
    by_stack [] e = absurd (some (omega (arith, length-stack_on [] n.open.items, ap length e)))
    by_stack (b ∷ st) e =
        let r = are_taken n texts h in
        let s : AreTaken texts (lines_so_far n) (b ∷ st) = subst (λ st. AreTaken texts (lines_so_far n) st) e r in
        record {
          after = refl;
          good = taken_begins texts (lines_so_far n) (stack_of n) r;
          open_ = λ script spelled. taken_open texts (lines_so_far n) b st script s spelled;
        }

pub all_closed : (n : Nesting) (texts : List (List ℕ)) → n.open.items ≡ [] → HasTaken n texts
    → Spell texts (code_of_statements n.statements.items)
all_closed n texts none h =
    let lines : lines_so_far n ≡ lines_in n.statements.items = rw none refl in
    let stack : stack_of n ≡ [] = rw none refl in
    taken_script texts (code_of_statements n.statements.items)
    (record { spelled = rw (← lines) h.spelled; sound = rw (← lines) (h.sound ∙ ap Some stack) })

pub is_script : (texts : List (List ℕ)) (script : Code) → Spell texts script → IsScript script
is_script texts script h = record { deep = h.deep; lines = spelled_lines (said texts) (script_lines script) h.spelled }

pub begun : (n : Nesting) (texts : List (List ℕ)) → HasTaken n texts → Begin texts
begun n texts h = taken_begins texts (lines_so_far n) (stack_of n) (are_taken n texts h)
