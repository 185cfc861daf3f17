pub mod VirtualText
