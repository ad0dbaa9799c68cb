-- What becomes of a transaction that conflicts.

-- its script is run again; or another one, its resolver, in its place; or it is given up; or it waits for a decision by hand.
-- `S` is how a resolver is named: by its place among the scripts where it is asked for, and as it was declared where it is kept.
pub data OnConflict (S : Type 0) : Type 0 where
  Reexec : OnConflict S
  Resolver : (script : S) → OnConflict S
  Abort : OnConflict S
  Manual : OnConflict S
