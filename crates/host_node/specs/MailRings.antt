-- What the fields of a host's mail mean, and what holds of them.
use Rattle.std.specs.Prelude.{ℕ, All}
use Rattle.std.specs.Global.{Global, Vec}
use Rattle.host_frames.specs.StreamReading.{contents_of}
use Rattle.host_frames.specs.Rings.{put_into, taken_from}
use Rattle.host_node.specs.Mail.{CameAsKey, Post, Rings}
use Rattle.host_node.specs.declared.mail.Mail.TheInside.{Inside}
use Rattle.rtrb.specs.Ring.{known_free, known_items, received, sent}
use Rattle.rtrb.specs.declared.AnyItems.{AnyItems}
use Rattle.rtrb.specs.declared.consumer.Consumer.{Consumer}
use Rattle.rtrb.specs.declared.producer.Producer.{Producer}

-- the rings of these two ends
abbrev pub rings_of : Consumer (Vec ℕ) Global AnyItems → Producer (Vec ℕ) Global AnyItems → Rings
rings_of bodies frames = record { inbox = taken_from bodies; outbox = put_into frames }

abbrev pub post_in : Inside → Post
post_in m = record {
  came = contents_of (received m.bodies);
  waits = contents_of (known_items m.bodies);
  gone = contents_of (sent m.frames);
  room = known_free m.frames;
  first = m.first.items;
  second = m.second.items;
  rings = rings_of m.bodies m.frames;
}

-- the keys that wait came
pub record ArePosts (m : Inside) : Type 0 where
  pub first : All (CameAsKey (contents_of (received m.bodies))) m.first.items
  pub second : All (CameAsKey (contents_of (received m.bodies))) m.second.items
