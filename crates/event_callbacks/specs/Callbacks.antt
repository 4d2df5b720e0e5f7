-- What a holder stores.

-- a closure of each kind
pub record Closures (T S W : Type 0) : Type 0 where
  pub sent : T
  pub sector : S
  pub written : W
