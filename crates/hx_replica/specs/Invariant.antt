-- What contracts see of a server.
use Rattle.std.specs.Prelude.{◌≡◌, map}
use Rattle.hx_types.specs.Spaces.{IsSpace}
use Rattle.hx_law_folds.specs.Folding.{folded_replica}
use Rattle.hx_replica.specs.declared.servers.Server.TheInside.{Inside}
use Rattle.hx_replica.specs.Replicas.{AreReplicas, rooms_of, views_of}
use Rattle.hx_replica.specs.Servers.{ServerValue}

abbrev pub value_of : Inside → ServerValue
value_of s = record {
  space = s.space;
  state = record { id = s.id; config = s.config; halted = s.halted; replicas = views_of s.replicas.items };
  rooms = rooms_of s.replicas.items;
}

-- the map is that of the space, and no slot has a past
pub record IsServer (s : Inside) : Type 0 where
  pub valid : IsSpace s.space
  pub map_is : s.map ≡ s.space
  pub replicas_are : AreReplicas s.space s.replicas.items
  pub bare : map folded_replica (views_of s.replicas.items) ≡ views_of s.replicas.items
